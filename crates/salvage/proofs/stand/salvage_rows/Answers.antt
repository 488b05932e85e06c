-- The rows kept can be numbered, and those left of them stand (`Judging`). Assumes nothing.
use native.Mathlib.Omega.{arith}
use Rattle.tables.specs.Lent.{lent_tables}
use Rattle.salvage.proofs.Judging.{gives-few, gives-long, kept-numberable, left-judged}
use Rattle.salvage.proofs.stand.salvage_rows.Goals as goal

pub drop_rows-requires : goal.drop_rows-requires
drop_rows-requires c =
    let a = c.args in
    let t = lent_tables a.tables.now in
    let most = gives-few _ t c.requires.gives in
    kept-numberable _ t c.requires.gives _ c.keep_rows.ensures (omega (arith, c.keep_rows.auto.stands))

pub save-requires-clause-judged : goal.save-requires-clause-judged
save-requires-clause-judged c =
    let a = c.args in
    let t = lent_tables a.tables.now in
    let most = gives-few _ t c.requires.gives in
    left-judged _ t c.requires.gives _ c.keep_rows.ensures (omega (arith, c.keep_rows.auto.stands)) _ c.requires.values.1 c.drop_rows.ensures

pub save-requires-clause-there : goal.save-requires-clause-there
save-requires-clause-there c =
    let a = c.args in
    let t = lent_tables a.tables.now in
    let most = gives-few _ t c.requires.gives in let long = (gives-long _ t c.requires.gives).makes in
    (omega (arith, c.keep_rows.auto.stands, c.drop_rows.auto.row), c.requires.values.0)
