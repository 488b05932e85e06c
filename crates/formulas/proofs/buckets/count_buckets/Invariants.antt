-- The values passed are counted (`Counting`), and no more than they are were not the first in their bucket. Assumes nothing.
use Rattle.std.specs.Prelude.{◌≤◌}
use Rattle.formulas.proofs.Bucketing.{Counting}
use Rattle.formulas.proofs.buckets.count_buckets.Given as goal

abbrev pub invariant-loop-x : goal.invariant-loop-x
invariant-loop-x l = (l.later ≤ l.x-index) × Counting l.held l.counts l.x-index
