-- The loop has passed every window before this one (`Scan`). Assumes nothing.
use mathlib.Core.List.{[]}
use Rattle.paper.proofs.Scan.{Scan}
use Rattle.frequencies.specs.Writing.{times_at}
use Rattle.frequencies.specs.Lent.{lent_windows}
use Rattle.frequencies.proofs.checks.first_bad_time.Given as goal

abbrev pub invariant-loop-i : goal.invariant-loop-i
invariant-loop-i l = Scan (times_at l.windows.count [] (lent_windows l.windows)) l.windows.count l.i
