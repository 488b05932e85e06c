-- The places before this one are the sums, and the rest as they were (`Filled`). Assumes nothing.
use Rattle.std.proofs.Common.{ℕ, ◌+◌, refl, arith}
use borrow.Author.Tests.{leb-true}
use Rattle.paper.specs.Lists.{nat}
use Rattle.paper.proofs.Least.{all_below-at}
use Rattle.paper.proofs.Buffers.{filled_next, filled-end}
use Rattle.merging.specs.Merge.{counts_fit}
use Rattle.merging.proofs.add_tallies.Goals as goal

pub overflow_add-by_number : goal.overflow_add-by_number
overflow_add-by_number c =
    let a = c.args in
    let k = c.loop-k.k in
    let low = all_below-at (λ (j : ℕ). counts_fit (nat a.first.now j) (nat a.second.now j)) 22 c.requires.3 k c.loop-k-test.true in
    omega (arith, leb-true (nat a.first.now k + nat a.second.now k) 4294967295 low)

pub loop-k-preserved : goal.loop-k-preserved
loop-k-preserved c = filled_next _ _ _ _ c.loop-k.invariant (omega (arith, c.requires.2, c.loop-k-test.true)) refl

pub returns : goal.returns
returns c = filled-end _ _ _ _ 22 c.loop-k.invariant (omega arith)
