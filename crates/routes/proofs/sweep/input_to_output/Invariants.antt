-- The moves pass on what changed, and each row in its turn is left as route 1 leaves it, since its inputs have their new values by then
-- (`sweeping-next`). Assumes nothing.
use Rattle.std.proofs.Common.{take}
use Rattle.tables.specs.Lent.{lent_tables}
use Rattle.routes.proofs.Sweeps.{Sweeping}
use Rattle.routes.proofs.sweep.input_to_output.Given as goal

abbrev pub invariant-loop-row : goal.invariant-loop-row
invariant-loop-row l =
    Sweeping (lent_tables l.tables) (take l.tables.m l.order) l.index.starts.now l.index.places.now l.stored l.initial.trial l.initial.flags l.row-index
    l.trial l.flags
