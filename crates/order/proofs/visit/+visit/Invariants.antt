-- A visit leaves what had begun as it was, and v ends where all its inputs end (`Visits`); each call leaves fewer fresh variables than this one met.
-- Assumes nothing.
use Rattle.std.proofs.Common.{◌-◌, take, drop}
use Rattle.paper.specs.Lists.{size}
use Rattle.paper.specs.Tables.{inputs_of}
use Rattle.order.specs.Formed.{bare_lent}
use Rattle.order.specs.Numbering.{unvisited}
use Rattle.order.proofs.Visits.{Going}
use Rattle.order.proofs.visit.+visit.Given as goal

abbrev pub decreases-visit : goal.decreases-visit
decreases-visit l = size (unvisited l.state.now) l.tables.now.n

abbrev pub invariant-loop-var : goal.invariant-loop-var
invariant-loop-var l =
    Going l.tables.n (inputs_of (bare_lent l.tables)) l.v (drop l.var-index (take (l.stop - l.first) (drop l.first l.tables.vars.now))) l.best l.initial.state l.state
