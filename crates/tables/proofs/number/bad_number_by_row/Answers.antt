-- The part handed on is the row's, and what is known of all coefficients holds for it (`coefs-known`). Assumes nothing.
use native.Mathlib.Omega.{arith}
use mathlib.Core.Bool.{◌&&◌, ◌||◌}
use mathlib.Core.Path.{◌≡◌, sym, ap, ◌∙◌}
use lib.Dec.{eqb}
use lib.IntN.{pos}
use lib.ListN.{get_or}
use borrow.Author.Rules.{rules}
use mir.Syntax.{w32}
use mir.Val.{SFits}
use mir.Facts.{to_z-of_z}
use Rattle.paper.specs.Lists.{nat}
use Rattle.paper.proofs.Scan.{scan-start, scan-some, scan-next, scan-none}
use Rattle.tables.specs.Lent.{lent_tables}
use Rattle.tables.specs.Rows.{all_small, coefs_good, param_good}
use Rattle.tables.proofs.Numbers.{row-good}
use Rattle.tables.proofs.Whole.{or-known, or-looked}
use Rattle.tables.proofs.number.bad_number_by_row.Goals.{then-ones, else-ones, then-known, else-known}
use Rattle.tables.proofs.number.bad_number_by_row.Goals as goal

pub returns-then-not-good : goal.returns-then-not-good
returns-then-not-good c =
    let t = lent_tables c.args.tables.now in let r = c.loop-row.row in
    let fits : SFits w32 (get_or t.params r (pos 0)) = search rules in
    let linear : c.if-ones.linear ≡ (c.all_one-ones.result || all_small t.coefs) = elim c.if-ones.branch [
      | then-ones w ↦ or-known _ _ _ w.if-ones.true w.linear-is
      | else-ones w ↦ or-looked _ _ _ w.if-ones.false (w.linear-is ∙ w.all_small-linear.ensures)
    ] in
    let suit : c.if-known.good ≡ ((c.all_one-ones.result || (c.if-ones.linear && eqb (nat t.kinds r) 1)) || coefs_good (nat t.kinds r) c.part_of-part.result.now) = elim c.if-known.branch [
      | then-known w ↦ or-known _ _ _ w.if-known.true w.good-is
      | else-known w ↦ or-looked _ _ _ w.if-known.false (w.good-is ∙ w.coefs_good.ensures)
    ] in
    scan-some _ _ _ c.loop-row.invariant (omega arith)
    (sym (row-good t r _ _ _ _ _ c.all_one-ones.ensures linear c.part_of-part.ensures suit (c.param_good.ensures ∙ ap (param_good (nat t.kinds r)) (to_z-of_z fits))) ∙ c.if-not-good.true)

pub loop-row-preserved : goal.loop-row-preserved
loop-row-preserved c =
    let t = lent_tables c.args.tables.now in let r = c.loop-row.row in
    let fits : SFits w32 (get_or t.params r (pos 0)) = search rules in
    let linear : c.if-ones.linear ≡ (c.all_one-ones.result || all_small t.coefs) = elim c.if-ones.branch [
      | then-ones w ↦ or-known _ _ _ w.if-ones.true w.linear-is
      | else-ones w ↦ or-looked _ _ _ w.if-ones.false (w.linear-is ∙ w.all_small-linear.ensures)
    ] in
    let suit : c.if-known.good ≡ ((c.all_one-ones.result || (c.if-ones.linear && eqb (nat t.kinds r) 1)) || coefs_good (nat t.kinds r) c.part_of-part.result.now) = elim c.if-known.branch [
      | then-known w ↦ or-known _ _ _ w.if-known.true w.good-is
      | else-known w ↦ or-looked _ _ _ w.if-known.false (w.good-is ∙ w.coefs_good.ensures)
    ] in
    scan-next _ _ _ c.loop-row.invariant (omega arith)
    (sym (row-good t r _ _ _ _ _ c.all_one-ones.ensures linear c.part_of-part.ensures suit (c.param_good.ensures ∙ ap (param_good (nat t.kinds r)) (to_z-of_z fits))) ∙ c.if-not-good.false)

pub loop-row-init : goal.loop-row-init
loop-row-init c = scan-start _ _

pub returns : goal.returns
returns c = scan-none _ _ _ c.loop-row.invariant (omega arith)
