-- The answer is that of the rows before this one (`below_next`). Assumes nothing.
use Prim.Native.Nat.{◌-◌, ◌≤◌}
use mathlib.Core.Path.{◌≡◌}
use Rattle.paper.specs.Lists.{nat, all_below}
use Rattle.paper.specs.Checks.{arity}
use Rattle.tables.proofs.shape.counts_good.Given as goal

abbrev pub invariant-loop-row : goal.invariant-loop-row
invariant-loop-row l = (l.row ≤ l.tables.m) × (l.good ≡ all_below (λ r. arity (nat l.tables.kinds.now r) (nat l.tables.counts.now r)) l.row)

abbrev pub decreases-loop-row : goal.decreases-loop-row
decreases-loop-row l = l.tables.m - l.row
