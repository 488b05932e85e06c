-- Behind the place that the loop has come to stand only line ends (`Behind`). Assumes nothing.
use Rattle.frequencies.proofs.Behind.{Behind}
use Rattle.frequencies.proofs.ends.body_end.Given as goal

abbrev pub invariant-loop-last : goal.invariant-loop-last
invariant-loop-last l = Behind l.bytes l.mark l.last
