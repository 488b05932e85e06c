-- The loop has joined the tests of every variable before this one (`Joint`). Assumes nothing.
use Prim.Native.Nat.{◌-◌}
use Rattle.paper.proofs.Scan.{Joint}
use Rattle.tables.specs.Lent.{lent_bounds}
use Rattle.checks.specs.Allowed.{starts, value_of}
use Rattle.checks.proofs.allowed.all_values_good.Given as goal

abbrev pub invariant-loop-v : goal.invariant-loop-v
invariant-loop-v l = Joint (value_of (starts l.whose) l.by (lent_bounds l.bounds) l.values) l.n l.v l.all

abbrev pub decreases-loop-v : goal.decreases-loop-v
decreases-loop-v l = l.n - l.v
