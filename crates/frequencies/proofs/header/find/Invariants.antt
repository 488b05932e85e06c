-- What was found and what is left say what all fields do (`Seeking`). Assumes nothing.
use Rattle.frequencies.specs.Scan.{still_to_scan}
use Rattle.frequencies.proofs.Naming.{Seeking}
use Rattle.frequencies.proofs.header.find.Given as goal

abbrev pub invariant-loop-sought : goal.invariant-loop-sought
invariant-loop-sought l = Seeking l.bytes l.fn.from.at l.fn.from.line l.name l.sought

abbrev pub decreases-loop-sought : goal.decreases-loop-sought
decreases-loop-sought l = still_to_scan l.bytes l.sought.behind
