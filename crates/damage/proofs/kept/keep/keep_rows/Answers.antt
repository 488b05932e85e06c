-- Each turn says of one row whether it is kept (`filled_next`), and takes it if so (`taken-on`). Assumes nothing.
use Rattle.std.proofs.Common.{◌+◌, sym, ap, ◌∙◌, arith}
use Rattle.paper.proofs.Buffers.{filled-start, filled_next}
use Rattle.damage.proofs.Keeping.{gives-sized, taken_start, taken-kept, taken-passed, kept-filled}
use Rattle.damage.proofs.kept.keep.keep_rows.Goals.{then-kept, else-kept}
use Rattle.damage.proofs.kept.keep.keep_rows.Goals as goal

pub loop-row-init : goal.loop-row-init
loop-row-init c =
    (omega arith, filled-start _ _, taken_start c.args.tables.now.makes.now c.args.tables.now.counts.now)

pub can_keep-kept-requires-clause-taken : goal.can_keep-kept-requires-clause-taken
can_keep-kept-requires-clause-taken c =
    c.loop-row.invariant.2

pub bounds-tables-row : goal.bounds-tables-row
bounds-tables-row c =
    let h = gives-sized c.requires.file_gives in omega arith

pub bounds-tables-row-then-kept : goal.bounds-tables-row-then-kept
bounds-tables-row-then-kept c =
    let h = gives-sized c.requires.file_gives in omega arith

pub loop-row-preserved : goal.loop-row-preserved
loop-row-preserved c =
    let a = c.args in let l = c.loop-row in let room = c.requires.m_in_bounds in let long = l.auto.stands in (
      omega arith,
      filled_next _ _ _ _ l.invariant.1 (omega arith) c.can_keep-kept.ensures,
      elim c.if-kept.branch [
        | then-kept w ↦ rw (w.made-is, w.used-is) (taken-kept c.requires.file_gives l.row l.invariant.2 (sym c.can_keep-kept.ensures ∙ w.if-kept.true) (ap (l.used +◌) w.wide-used.ensures.0) w.mark.ensures)
        | else-kept w ↦ rw (w.made-is, w.used-is) (taken-passed c.requires.file_gives l.row l.invariant.2 (sym c.can_keep-kept.ensures ∙ w.if-kept.false))
      ],
    )

pub returns : goal.returns
returns c =
    kept-filled c.loop-row.invariant.1 (omega arith)
