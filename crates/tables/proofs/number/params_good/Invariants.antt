-- The answer is that of the rows before this one (`Joint`). Assumes nothing.
use Prim.Native.Nat.{◌-◌}
use lib.IntN.{pos}
use lib.ListN.{get_or}
use Rattle.paper.specs.Lists.{nat}
use Rattle.paper.proofs.Scan.{Joint}
use Rattle.tables.specs.Rows.{param_good}
use Rattle.tables.proofs.number.params_good.Given as goal

abbrev pub invariant-loop-row : goal.invariant-loop-row
invariant-loop-row l = Joint (λ r. param_good (nat l.tables.kinds.now r) (get_or l.tables.params.now r (pos 0))) l.tables.m l.row l.good

abbrev pub decreases-loop-row : goal.decreases-loop-row
decreases-loop-row l = l.tables.m - l.row
