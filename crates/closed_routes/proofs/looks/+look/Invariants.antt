-- v is flagged before what its formula looks at (`InTurn`), so each call finds fewer unflagged variables than this one met. Assumes nothing.
use Rattle.std.proofs.Common.{◌-◌, length}
use Rattle.paper.specs.Lists.{size}
use Rattle.closed_routes.specs.Walk.{unmarked}
use Rattle.closed_routes.specs.Looking.{shapes_lent}
use Rattle.closed_routes.proofs.InTurn.{InTurn}
use Rattle.closed_routes.proofs.looks.+look.Given as goal

abbrev pub decreases-look : goal.decreases-look
decreases-look l = size (unmarked l.flags.now) (length l.work.now)

abbrev pub invariant-loop-i : goal.invariant-loop-i
invariant-loop-i l =
    InTurn (shapes_lent l.tables) l.work l.values l.v l.r l.first l.last l.i l.initial.flags l.flags

abbrev pub decreases-loop-i : goal.decreases-loop-i
decreases-loop-i l = l.last - l.i
