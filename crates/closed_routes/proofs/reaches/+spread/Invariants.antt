-- v is marked before what its readers make (`Going`), so each call finds fewer unmarked variables than this one met. Assumes nothing.
use Rattle.paper.specs.Lists.{size}
use Rattle.routes.specs.Readers.{variables}
use Rattle.closed_routes.specs.Walk.{unmarked}
use Rattle.closed_routes.proofs.Readers.{Going}
use Rattle.closed_routes.proofs.reaches.+spread.Given as goal

abbrev pub decreases-spread : goal.decreases-spread
decreases-spread l = size (unmarked l.marks.now) (variables l.index.now.starts.now)

abbrev pub invariant-loop-i : goal.invariant-loop-i
invariant-loop-i l = Going l.makes l.index.starts.now l.index.places.now l.v l.end l.initial.marks l.marks l.i
