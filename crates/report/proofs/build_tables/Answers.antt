-- Build's answer and the rows that it left, without the order, the index and the log, are what is left of the tables (`tables-left`).
-- Assumes nothing.
use Rattle.tables.specs.Lent.{lent_tables}
use Rattle.report.proofs.Told.{tables-left}
use Rattle.report.proofs.build_tables.Goals as goal

pub returns : goal.returns
returns c =
    let a = c.args in let b = c.build_core-done in let l = b.new in
    tables-left a.numbers.now a.stored.now a.reasons.now (lent_tables a.tables.now) a.starts.now
    b.result l.numbers l.order l.stored l.reader_starts l.reader_places l.reasons l.log_sizes b.ensures
