-- The entries of the rows before this one have their row, and the part of this one stands after theirs (`rows_next`). Assumes nothing.
use Rattle.index.specs.Parts.{RowsAt}
use Rattle.index.proofs.readers.rows.write_rows.Given as goal

abbrev pub invariant-loop-r : goal.invariant-loop-r
invariant-loop-r l = RowsAt l.r l.tables.firsts.now l.tables.counts.now l.rows
