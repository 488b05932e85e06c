-- The loop has passed every row before this one (`Scan`). Assumes nothing.
use Prim.Native.Nat.{◌-◌}
use Rattle.paper.specs.Checks.{number_good}
use Rattle.paper.proofs.Scan.{Scan}
use Rattle.tables.specs.Lent.{lent_tables}
use Rattle.tables.proofs.number.bad_number_by_row.Given as goal

abbrev pub invariant-loop-row : goal.invariant-loop-row
invariant-loop-row l = Scan (number_good (lent_tables l.tables)) l.tables.m l.row

abbrev pub decreases-loop-row : goal.decreases-loop-row
decreases-loop-row l = l.tables.m - l.row
