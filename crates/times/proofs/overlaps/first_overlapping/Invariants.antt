-- The loop has passed every window before this one (`Scan`). Assumes nothing.
use mathlib.Core.List.{[]}
use Rattle.paper.proofs.Scan.{Scan}
use Rattle.times.specs.Windows.{apart}
use Rattle.times.specs.Lent.{lent_windows}
use Rattle.times.proofs.overlaps.first_overlapping.Given as goal

abbrev pub invariant-loop-i : goal.invariant-loop-i
invariant-loop-i l = Scan (apart (lent_windows l.windows [])) l.windows.count l.i
