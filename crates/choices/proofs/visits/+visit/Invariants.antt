-- A visit leaves what had begun as it was, and v's value stands once all that its formula looks at does (`InTurn`); each call leaves fewer fresh
-- variables than this one met. Assumes nothing.
use Rattle.std.proofs.Common.{◌-◌, length}
use Rattle.paper.specs.Lists.{size}
use Rattle.routes.specs.Work.{rows_lent}
use Rattle.choices.specs.Visiting.{unbegun}
use Rattle.choices.proofs.InTurn.{InTurn, Known}
use Rattle.choices.proofs.visits.+visit.Given as goal

abbrev pub decreases-visit : goal.decreases-visit
decreases-visit l = size (unbegun l.states.now) (length l.by.now)

abbrev pub invariant-loop-i : goal.invariant-loop-i
invariant-loop-i l =
    Known (rows_lent l.tables) l.by l.v l.r l.first l.last l.fn.values l.fn.states
    × InTurn (rows_lent l.tables) l.by l.v l.r l.first l.last l.i l.initial.values l.initial.states l.values l.states

abbrev pub decreases-loop-i : goal.decreases-loop-i
decreases-loop-i l = l.last - l.i
