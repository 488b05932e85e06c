-- The rows passed stand one behind the other, a parameter by its bits (`Lines`). Assumes nothing.
use Rattle.fields.specs.Rows.{bytes_of_row}
use Rattle.fields.proofs.Runs.{Lines}
use Rattle.fields.proofs.lines.put_rows.Given as goal

abbrev pub invariant-loop-r : goal.invariant-loop-r
invariant-loop-r l = Lines (bytes_of_row l.tables) l.initial.bytes l.at l.tables.m l.bytes l.r
