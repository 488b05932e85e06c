use native.Mathlib.Omega.{arith}
use borrow.Author.Rules.{rules}
use Rattle.tables.specs.Lent.{lent_tables}
use Rattle.tables.proofs.Sifting.{sifted-start, sifted-linear, sifted-other, sifted-end, from-before}
use Rattle.tables.proofs.number.others_one.Goals.{then-tables-row-eq1, else-tables-row-eq1}
use Rattle.tables.proofs.number.others_one.Goals as goal

pub loop-row-init : goal.loop-row-init
loop-row-init c = sifted-start _

pub offset_bounds-tables-from : goal.offset_bounds-tables-from
offset_bounds-tables-from c = let f = from-before _ c.requires.m_in_bounds.counts c.requires.coefs_value _ _ _ c.loop-row.invariant (omega arith) in search rules

pub slice_bounds-all_one-count : goal.slice_bounds-all_one-count
slice_bounds-all_one-count c =
    let f = from-before _ c.requires.m_in_bounds.counts c.requires.coefs_value _ _ _ c.loop-row.invariant (omega arith) in let w = c.wide-first.ensures in omega arith

pub slice_bounds-all_one-start : goal.slice_bounds-all_one-start
slice_bounds-all_one-start c =
    let f = from-before _ c.requires.m_in_bounds.counts c.requires.coefs_value _ _ _ c.loop-row.invariant (omega arith) in let w = c.wide-first.ensures in omega arith

pub slice_bounds-all_one-end : goal.slice_bounds-all_one-end
slice_bounds-all_one-end c =
    let f = from-before _ c.requires.m_in_bounds.counts c.requires.coefs_value _ _ _ c.loop-row.invariant (omega arith) in let w = c.wide-first.ensures in omega arith

pub loop-row-preserved : goal.loop-row-preserved
loop-row-preserved c =
    let t = lent_tables c.args.tables.now in
    elim c.if-tables-row-eq1.branch [
      | then-tables-row-eq1 w ↦ sifted-linear t c.requires.m_in_bounds.counts c.requires.coefs_value _ _ _ c.loop-row.invariant (omega arith) w.if-tables-row-eq1.true
          _ w.wide-first.result w.wide.result _ _ w.good-is w.from-is w.wide-first.ensures.0 w.wide.ensures.0 w.all_one-good.ensures
      | else-tables-row-eq1 w ↦ sifted-other t c.requires.m_in_bounds.counts c.requires.coefs_value _ _ _ c.loop-row.invariant (omega arith) w.if-tables-row-eq1.false _ _ w.good-is w.from-is
    ]

pub returns : goal.returns
returns c = sifted-end _ c.requires.m_in_bounds.counts c.requires.coefs_value _ _ _ c.loop-row.invariant (omega arith) _ c.all_one.ensures
