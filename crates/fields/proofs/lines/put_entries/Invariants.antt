-- The entries passed stand one behind the other, a coefficient by its bits (`Lines`). Assumes nothing.
use Rattle.fields.specs.Rows.{bytes_of_entry}
use Rattle.fields.proofs.Runs.{Lines}
use Rattle.fields.proofs.lines.put_entries.Given as goal

abbrev pub invariant-loop-i : goal.invariant-loop-i
invariant-loop-i l = Lines (bytes_of_entry l.tables) l.initial.bytes l.at l.tables.e l.bytes l.i
