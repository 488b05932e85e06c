-- Where nothing is wrong with all rows and entries together nothing is with any (`all-shapes`), and else they are asked row by row. Assumes nothing.
use Rattle.tables.specs.Lent.{lent_tables}
use Rattle.tables.proofs.Placing.{all-shapes}
use Rattle.tables.proofs.shape.first_bad_shape.Goals as goal

pub returns-then-rows_known-inputs_known : goal.returns-then-rows_known-inputs_known
returns-then-rows_known-inputs_known c =
    let a = c.args.tables.now in
    all-shapes (lent_tables a) c.requires.makes c.requires.parts.counts
    c.all_known.ensures c.counts_good.ensures c.all_known-2.ensures c.parts_good.ensures c.if-rows_known-inputs_known.true
