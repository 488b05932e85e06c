-- The places passed that share their value, and those that are left, are all that do (`Passed`). Assumes nothing.
use Rattle.std.specs.Prelude.{leb}
use Rattle.paper.specs.Formula.{places}
use Rattle.formulas.proofs.Counting.{Passed}
use Rattle.formulas.proofs.buckets.sharing_buckets.Given as goal

abbrev pub invariant-loop-x : goal.invariant-loop-x
invariant-loop-x l = Passed (λ x. leb 2 (places x l.held)) l.held l.x-index l.n
