-- The two tests together are those that guard the part in the paper (`asked`); past them the part is the row's. Assumes nothing.
use mathlib.Core.Bool.{false, true}
use mathlib.Core.Path.{refl, ap}
use Rattle.tables.specs.Given.{part_named}
use Rattle.tables.proofs.Asked.{row-there, asked}
use Rattle.tables.proofs.parts.part_of_row.Goals as goal

pub returns-then-not-there : goal.returns-then-not-there
returns-then-not-there c =
    let t = c.args in
    ap part_named (asked t.m t.e t.firsts.now t.counts.now t.vars.now t.row _ _ refl refl false _ c.if-not-there.true refl)

pub bounds-firsts-row : goal.bounds-firsts-row
bounds-firsts-row c =
    let t = c.args in
    (row-there t.m t.e t.firsts.now t.counts.now t.vars.now t.row c.if-not-there.false).0

pub bounds-counts-row : goal.bounds-counts-row
bounds-counts-row c =
    let t = c.args in
    (row-there t.m t.e t.firsts.now t.counts.now t.vars.now t.row c.if-not-there.false).1

pub returns-then-not-inside : goal.returns-then-not-inside
returns-then-not-inside c =
    let t = c.args in
    ap part_named
    (asked t.m t.e t.firsts.now t.counts.now t.vars.now t.row _ _ c.wide-first.ensures.0 c.wide-count.ensures.0 true false c.if-not-there.false c.if-not-inside.true)

pub returns : goal.returns
returns c =
    let t = c.args in
    ap part_named
    (asked t.m t.e t.firsts.now t.counts.now t.vars.now t.row _ _ c.wide-first.ensures.0 c.wide-count.ensures.0 true true c.if-not-there.false c.if-not-inside.false)
