-- The mark of v is set after those of what its readers make, whose topological numbers are greater: so their distance to the greatest is less
-- (`Going`). Assumes nothing.
use Rattle.routes.specs.Readers.{distance}
use Rattle.routes.proofs.Readers.{Going}
use Rattle.routes.proofs.marks.+mark.Given as goal

abbrev pub decreases-mark : goal.decreases-mark
decreases-mark l = distance l.makes.now l.index.now.starts.now l.index.now.places.now l.v

abbrev pub invariant-loop-i : goal.invariant-loop-i
invariant-loop-i l = Going l.makes l.index.starts.now l.index.places.now l.v l.end l.initial.marks l.marks l.i
