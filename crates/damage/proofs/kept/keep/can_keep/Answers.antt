-- Each way out is what the test comes to there (`not-whole`, `not-alone`, `keep-last`). Assumes nothing.
use native.Mathlib.Omega.{arith}
use mathlib.Core.Bool.{◌&&◌}
use mathlib.Core.Path.{ap₂, sym, ◌∙◌}
use Rattle.tables.specs.Lent.{lent_tables}
use Rattle.damage.specs.Saved.{kept_rows}
use Rattle.damage.proofs.Alone.{alone-low}
use Rattle.damage.proofs.Keeping.{gives-sized, whole-inside, not-whole, not-alone, keep-last}
use Rattle.damage.proofs.kept.keep.can_keep.Goals as goal

pub bounds-tables-row : goal.bounds-tables-row
bounds-tables-row c =
    let h = gives-sized c.requires.file_gives in omega arith

pub bounds-tables-row-2 : goal.bounds-tables-row-2
bounds-tables-row-2 c =
    let h = gives-sized c.requires.file_gives in omega arith

pub bounds-tables-row-3 : goal.bounds-tables-row-3
bounds-tables-row-3 c =
    let h = gives-sized c.requires.file_gives in omega arith

pub returns-then-not-whole : goal.returns-then-not-whole
returns-then-not-whole c =
    let a = c.args in not-whole a.bytes.now (lent_tables a.tables.now) a.row (kept_rows a.bytes.now a.row) c.requires.file_gives (sym (ap₂ ◌&&◌ c.row_whole.ensures c.entries_whole.ensures) ∙ c.if-not-whole.true)

pub alone_good-requires-clause-sized : goal.alone_good-requires-clause-sized
alone_good-requires-clause-sized c =
    gives-sized c.requires.file_gives

pub alone_good-requires-clause-row_lt_m : goal.alone_good-requires-clause-row_lt_m
alone_good-requires-clause-row_lt_m c =
    let a = c.args in (c.requires.row_lt_m, whole-inside a.bytes.now (lent_tables a.tables.now) a.row (sym (ap₂ ◌&&◌ c.row_whole.ensures c.entries_whole.ensures) ∙ c.if-not-whole.false))

pub returns-then-not-alone_good : goal.returns-then-not-alone_good
returns-then-not-alone_good c =
    let a = c.args in not-alone a.bytes.now (lent_tables a.tables.now) a.row (kept_rows a.bytes.now a.row) c.requires.file_gives (sym (ap₂ ◌&&◌ c.row_whole.ensures c.entries_whole.ensures) ∙ c.if-not-whole.false) (sym c.alone_good.ensures ∙ c.if-not-alone_good.true)

pub can_join-requires : goal.can_join-requires
can_join-requires c =
    let a = c.args in let h = gives-sized c.requires.file_gives in let full = c.requires.taken.full in let low = alone-low (lent_tables a.tables.now) a.row (sym c.alone_good.ensures ∙ c.if-not-alone_good.false) in
    (omega arith, c.requires.taken.few)

pub returns : goal.returns
returns c =
    let a = c.args in let h = gives-sized c.requires.file_gives in let good = (sym c.alone_good.ensures ∙ c.if-not-alone_good.false) in let low = alone-low (lent_tables a.tables.now) a.row good in
    c.can_join.ensures
    ∙ keep-last a.bytes.now (lent_tables a.tables.now) a.row (kept_rows a.bytes.now a.row) c.requires.file_gives c.requires.taken (sym (ap₂ ◌&&◌ c.row_whole.ensures c.entries_whole.ensures) ∙ c.if-not-whole.false) good (omega arith)
