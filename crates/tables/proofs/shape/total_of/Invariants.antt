-- The sum is that of the counts before this row, each below 65,536. Assumes nothing.
use Prim.Native.Nat.{◌*◌, ◌≤◌}
use mathlib.Core.Path.{◌≡◌}
use lib.ListN.{take}
use Rattle.paper.specs.Lists.{total}
use Rattle.tables.proofs.shape.total_of.Given as goal

abbrev pub invariant-loop-count : goal.invariant-loop-count
invariant-loop-count l = (l.sum ≤ 65536 * l.count-index) × (l.sum ≡ total (take l.count-index l.tables.counts.now))
