-- The loop has passed every row before this one (`Scan`), and `before` is the exact sum of their counts. Assumes nothing.
use Prim.Native.Nat.{◌-◌}
use mathlib.Core.Path.{◌≡◌}
use lib.ListN.{take}
use Rattle.paper.specs.Lists.{total}
use Rattle.paper.specs.Checks.{shape_good}
use Rattle.paper.proofs.Scan.{Scan}
use Rattle.tables.specs.Lent.{lent_tables}
use Rattle.tables.proofs.shape.bad_shape_by_row.Given as goal

abbrev pub invariant-loop-row : goal.invariant-loop-row
invariant-loop-row l = Scan (shape_good (lent_tables l.tables)) l.tables.m l.row × (l.before ≡ total (take l.row l.tables.counts.now))

abbrev pub decreases-loop-row : goal.decreases-loop-row
decreases-loop-row l = l.tables.m - l.row
