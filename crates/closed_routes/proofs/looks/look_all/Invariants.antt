-- One variable after another is gone to, and those that are left have room in the row of work (`list-next`). Assumes nothing.
use Rattle.closed_routes.specs.Looking.{shapes_lent}
use Rattle.closed_routes.proofs.InTurn.{ListFrom}
use Rattle.closed_routes.proofs.looks.look_all.Given as goal

abbrev pub invariant-loop-v : goal.invariant-loop-v
invariant-loop-v l = ListFrom (shapes_lent l.tables) l.work l.values l.asked l.initial.flags l.v-index l.flags
