-- The row is filled from the front with the state that each maker says. Assumes nothing.
use Rattle.paper.specs.Lists.{nat}
use Rattle.paper.proofs.Buffers.{Filled}
use Rattle.order.specs.Numbering.{search_state}
use Rattle.order.proofs.visit.end_search.Given as goal

abbrev pub invariant-loop-v : goal.invariant-loop-v
invariant-loop-v l = Filled (λ u. search_state (nat l.by u)) l.initial.state l.state l.v
