-- The places passed that hold z, and those that are left, are all that hold it (`Passed`). Assumes nothing.
use Rattle.integers.specs.Integers.{eq_z}
use Rattle.formulas.proofs.Counting.{Passed}
use Rattle.formulas.proofs.buckets.holding.Given as goal

abbrev pub invariant-loop-x : goal.invariant-loop-x
invariant-loop-x l = Passed (λ x. eq_z x l.z) l.held l.x-index l.n
