-- Along the order a row's inputs have their values when its turn comes, so each row gets its own (`working-next`). Assumes nothing.
use Rattle.std.proofs.Common.{take}
use Rattle.tables.specs.Lent.{lent_tables}
use Rattle.routes.proofs.Worked.{Working}
use Rattle.routes.proofs.afresh.work_out.Given as goal

abbrev pub invariant-loop-row : goal.invariant-loop-row
invariant-loop-row l = Working (lent_tables l.tables) (take l.tables.m l.order) l.initial.values l.row-index l.values
