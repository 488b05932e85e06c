-- Each route flags what it evaluates; the first two go by the row of makers. Assumes nothing.
use Rattle.std.proofs.Common.{Bool, true, false, ◌≡◌, refl, sym}
use mathlib.Core.Bool.{◌&&◌}
use Rattle.paper.specs.Net.{output-to-input}
use Rattle.tables.specs.Lent.{lent_tables}
use Rattle.paper.specs.Tables.{is_made}
use Rattle.closed_routes.proofs.Plans.{plan-all, parts, laid}
use Rattle.closed_routes.proofs.Flags.{changed-flagged, clear-closed, looked-flagged}
use Rattle.closed_routes.proofs.flagged.flag_evaluated.Goals as goal

and-true : (b : Bool) → (b && true) ≡ b
and-true true = refl
and-true false = refl

pub flag_changed-requires-clause-parts : goal.flag_changed-requires-clause-parts
flag_changed-requires-clause-parts c =
    let t = lent_tables c.args.tables.now in
    parts t c.requires.renewed.steady.sound _ _ (plan-all t c.args.by.now c.requires.makers)

pub look_all-requires-clause-laid : goal.look_all-requires-clause-laid
look_all-requires-clause-laid c =
    let t = lent_tables c.args.tables.now in
    laid t c.requires.renewed.steady.sound _ _ (plan-all t c.args.by.now c.requires.makers) c.args.values.now c.requires.renewed.in-values

pub look_all-requires-clause-closed : goal.look_all-requires-clause-closed
look_all-requires-clause-closed c =
    let t = lent_tables c.args.tables.now in
    clear-closed t c.args.stored.now c.args.trial.now c.requires.renewed.steady c.args.values.now c.requires.renewed output-to-input c.args.asked.now c.args.flags.now
    c.requires.begun.clear c.requires.begun.in-flags _ _ (plan-all t c.args.by.now c.requires.makers)

pub returns-in-InputToOutput : goal.returns-in-InputToOutput
returns-in-InputToOutput c =
    let t = lent_tables c.args.tables.now in
    rw (sym c.of_number.ensures, c.in-InputToOutput.is) (changed-flagged t c.args.stored.now c.args.trial.now c.requires.renewed.steady c.args.values.now c.requires.renewed c.args.asked.now _ c.args.flags.now _
    (plan-all t c.args.by.now c.requires.makers) c.flag_changed.ensures)

pub returns-in-OutputToInput : goal.returns-in-OutputToInput
returns-in-OutputToInput c =
    let t = lent_tables c.args.tables.now in
    rw (sym c.of_number.ensures, c.in-OutputToInput.is) (looked-flagged t c.args.stored.now c.args.trial.now c.requires.renewed.steady c.args.values.now c.requires.renewed output-to-input c.args.asked.now c.args.flags.now
    c.requires.begun.clear c.requires.begun.in-flags _ _ (plan-all t c.args.by.now c.requires.makers) c.requires.asked (λ v. sym (and-true (is_made t v))) (λ v. refl) _ c.look_all.ensures)
