-- The loop has passed every window before this one (`Scan`). Assumes nothing.
use Rattle.paper.proofs.Scan.{Scan}
use Rattle.frequencies.specs.Writing.{named_at}
use Rattle.frequencies.specs.Lent.{lent_windows}
use Rattle.frequencies.proofs.checks.first_bad_name.Given as goal

abbrev pub invariant-loop-i : goal.invariant-loop-i
invariant-loop-i l = Scan (named_at l.windows.count l.text (lent_windows l.windows)) l.windows.count l.i
