-- The loop has passed every window before this one (`Scan`). Assumes nothing.
use mathlib.Core.Bool.{not}
use mathlib.Core.List.{[]}
use Rattle.paper.proofs.Scan.{Scan}
use Rattle.times.specs.Windows.{overlap}
use Rattle.times.specs.Lent.{lent_windows}
use Rattle.times.proofs.overlaps.first_on.Given as goal

abbrev pub invariant-loop-j : goal.invariant-loop-j
invariant-loop-j l = Scan (λ j. not (overlap (lent_windows l.windows []) l.i j)) l.windows.count l.j
