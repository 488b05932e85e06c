-- One variable after another is asked, and those that are left have room in the row of work (`list-next`). Assumes nothing.
use Rattle.routes.specs.Work.{rows_lent}
use Rattle.routes.proofs.InTurn.{ListFrom}
use Rattle.routes.proofs.ask.ask_all.Given as goal

abbrev pub invariant-loop-v : goal.invariant-loop-v
invariant-loop-v l =
    ListFrom (rows_lent l.tables) l.work l.asked l.initial.trial l.initial.flags l.v-index l.trial l.flags
