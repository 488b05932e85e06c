-- Each visit begins its variable, and leaves what it does not end waiting on an input (`Sweeps`). Assumes nothing.
use Rattle.paper.specs.Tables.{inputs_of}
use Rattle.order.specs.Formed.{bare_lent}
use Rattle.order.specs.Numbering.{NumberedBelow}
use Rattle.order.proofs.visit.visit_all.Given as goal

abbrev pub invariant-loop-v : goal.invariant-loop-v
invariant-loop-v l = NumberedBelow l.tables.n (inputs_of (bare_lent l.tables)) l.v l.state
