use native.Mathlib.Omega.{arith}
use mathlib.Core.Bool.{◌&&◌}
use mathlib.Core.Path.{◌≡◌, refl, ap, ◌∙◌}
use Rattle.paper.specs.Lists.{nat, all_below}
use Rattle.paper.specs.Checks.{arity}
use Rattle.tables.proofs.Whole.{below_next}
use Rattle.tables.proofs.shape.counts_good.Goals as goal

pub loop-row-init : goal.loop-row-init
loop-row-init c = (omega arith, refl)

pub loop-row-preserved : goal.loop-row-preserved
loop-row-preserved c =
    let a = c.args in let l = c.loop-row in (
      omega arith,
      ap (l.good &&◌) c.arity_good-good.ensures ∙ below_next (λ r. arity (nat a.tables.now.kinds.now r) (nat a.tables.now.counts.now r)) l.row l.good l.invariant.1,
    )

pub returns : goal.returns
returns c =
    let a = c.args in let l = c.loop-row in let same : l.row ≡ a.tables.now.m = omega arith in
    l.invariant.1 ∙ ap (all_below (λ r. arity (nat a.tables.now.kinds.now r) (nat a.tables.now.counts.now r))) same
