-- v is marked, listed and planned before what its readers make (`Going`, `Noted`), so each call finds fewer unmarked variables than this one met. Assumes nothing.
use Rattle.paper.specs.Lists.{size}
use Rattle.routes.specs.Readers.{variables}
use Rattle.closed_routes.specs.Walk.{unmarked}
use Rattle.closed_routes.proofs.Readers.{Going}
use Rattle.probes.specs.Touched.{Noted}
use Rattle.probes.proofs.touch.+touch.Given as goal

abbrev pub decreases-touch : goal.decreases-touch
decreases-touch l = size (unmarked l.marks.now) (variables l.index.now.starts.now)

abbrev pub invariant-loop-i : goal.invariant-loop-i
invariant-loop-i l = Going l.makes l.index.starts.now l.index.places.now l.v l.end l.initial.marks l.marks l.i × Noted (variables l.index.starts.now) l.by l.marks l.work l.touched l.listed
