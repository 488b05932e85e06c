-- A variable that waits is worked out by its row, after the inputs that the row asks in turn (`InTurn`): each of them stands lower. Those that
-- do not wait are left as they stand (`asked-still`). Assumes nothing.
use Rattle.std.proofs.Common.{◌+◌, ◌*◌, ◌-◌}
use Rattle.routes.specs.Work.{rows_lent, depth}
use Rattle.routes.proofs.InTurn.{InTurn}
use Rattle.routes.proofs.ask.+value_of_row_value_of_variable.Given as goal

abbrev pub decreases-value_of_row : goal.decreases-value_of_row
decreases-value_of_row l = 2 * depth (rows_lent l.tables.now) l.work.now l.v

abbrev pub decreases-value_of_variable : goal.decreases-value_of_variable
decreases-value_of_variable l = 2 * depth (rows_lent l.tables.now) l.work.now l.v + 1

abbrev pub invariant-value_of_row-loop-i : goal.invariant-value_of_row-loop-i
invariant-value_of_row-loop-i l =
    InTurn (rows_lent l.tables) l.work l.v l.r l.first l.last l.i l.initial.trial l.initial.flags l.trial l.flags

abbrev pub decreases-value_of_row-loop-i : goal.decreases-value_of_row-loop-i
decreases-value_of_row-loop-i l = l.last - l.i
