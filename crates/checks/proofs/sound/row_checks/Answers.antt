-- Past check 3 the parts lie within e, so the first e coefficients tell (`numbers-front`). Assumes nothing.
use mathlib.Core.Path.{sym, ap, ◌∙◌}
use lib.ListN.{take}
use borrow.Author.Tests.{eq-eqb}
use Rattle.integers.specs.Below.{if_below}
use Rattle.paper.specs.Lists.{total}
use Rattle.paper.specs.Checks.{accepted, kind_good, shape_good, number_good}
use Rattle.paper.proofs.Verdicts.{require-next}
use Rattle.tables.specs.Answers.{answer_of, unless_at}
use Rattle.tables.specs.Lent.{lent_tables}
use Rattle.tables.proofs.Answered.{none_fails-is, none_fails-none, none_fails-passes}
use Rattle.tables.proofs.Judged.{from_three, from_total, from_four, numbers-front}
use Rattle.checks.proofs.sound.row_checks.Goals as goal

pub returns : goal.returns
returns c =
    let t = lent_tables c.args.tables.now in
    let kinds = none_fails-passes 2 t.m (kind_good t) _ c.first_bad_kind.ensures (from_three t accepted) _ (sym c.none_fails.ensures ∙ c.in_ok-none_fails.was) in
    let shapes = none_fails-passes 3 t.m (shape_good t) _ c.first_bad_shape.ensures (from_total t accepted) _ (sym c.none_fails-2.ensures ∙ c.in_ok-none_fails-2.was) in
    let sum = require-next 3 _ _ (from_four t accepted) (eq-eqb (total (take t.m t.counts)) t.e (sym c.total_of.ensures ∙ c.if-total_of-tables.false)) in
    let found = numbers-front t (none_fails-none 3 _ _ (sym c.none_fails-2.ensures ∙ c.in_ok-none_fails-2.was) ∙ c.first_bad_shape.ensures) in
    c.none_fails-3.ensures ∙ ap (unless_at 4) (c.first_bad_number.ensures ∙ ap (if_below t.m) found) ∙ none_fails-is 4 t.m (number_good t)
    ∙ ap (answer_of tt) (sym (kinds ∙ shapes ∙ sum))
