-- Each part begins where the one before it ends, so far as the answer is yes, and `before` is then the sum of the counts (`Placing`). Assumes nothing.
use Prim.Native.Nat.{◌-◌, ◌<◌}
use Rattle.tables.proofs.Placing.{Placing}
use Rattle.tables.proofs.shape.parts_good.Given as goal

abbrev pub invariant-loop-row : goal.invariant-loop-row
invariant-loop-row l = (l.before < 131072) × Placing l.tables.m l.tables.firsts.now l.tables.counts.now l.row l.good l.before

abbrev pub decreases-loop-row : goal.decreases-loop-row
decreases-loop-row l = l.tables.m - l.row
