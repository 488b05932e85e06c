use Rattle.std.proofs.Common.{arith, ap, ap₂, ◌∙◌}
use lib.Dec.{eqb}
use Rattle.paper.specs.Lists.{nat}
use Rattle.paper.proofs.Scan.{part_same, joint-next, joint-end}
use Rattle.index.proofs.Walk.{walked-untried, walked_next, walked_stop, walked_end, due-is, rows-stopped, rows-walked}
use Rattle.index.proofs.readers.right.walk_rows.Goals as goal

pub row_due-requires : goal.row_due-requires
row_due-requires g c =
    walked-untried _ c.requires.laid c.args.index.now.starts.now c.args.index.now.places.now c.requires.room.2 _ _ c.loop-r.invariant.0 c.loop-r-test.true _ _ c.requires.room.0
    (part_same c.args.tables.now.vars.now _ _ _ _ c.wide-first.ensures.0 c.wide.ensures.0)

pub returns-in_err-least : goal.returns-in_err-least
returns-in_err-least g c =
    rw c.from_residual.ensures (rows-stopped _ _ _ _
    (walked_stop _ c.requires.laid c.args.index.now.starts.now c.args.index.now.places.now c.requires.room.2 _ _ c.loop-r.invariant.0 c.loop-r-test.true c.args.nums.now _ _
    (part_same c.args.tables.now.vars.now _ _ _ _ c.wide-first.ensures.0 c.wide.ensures.0) c.row_due.ensures c.in_err-least.was))

pub loop-r-preserved : goal.loop-r-preserved
loop-r-preserved g c =
    let part = part_same c.args.tables.now.vars.now _ _ _ _ c.wide-first.ensures.0 c.wide.ensures.0 in (
      walked_next _ c.requires.laid c.args.index.now.starts.now c.args.index.now.places.now c.requires.room.2 _ _ c.loop-r.invariant.0 c.loop-r-test.true c.args.nums.now _ _
          part c.row_due.ensures _ c.in_ok-least.was,
      joint-next _ _ _ _ _ c.loop-r.invariant.1 c.loop-r-test.true
          (ap₂ eqb (c.wide-in-loop-r-2.ensures.0 ∙ ap (nat c.args.nums.now) c.wide-in-loop-r.ensures.0)
          (due-is _ c.requires.laid c.args.index.now.starts.now c.args.index.now.places.now c.requires.room.2 _ _ c.loop-r.invariant.0 c.loop-r-test.true c.args.nums.now _ _
          part c.row_due.ensures _ c.in_ok-least.was)),
    )

pub returns : goal.returns
returns g c =
    rw c.then_some.ensures (rows-walked _ _ _ _ _ _
    (c.ends_right.ensures ∙ walked_end _ c.requires.laid c.args.index.now.starts.now c.args.index.now.places.now c.requires.room.2 _ _ c.loop-r.invariant.0 (omega arith))
    (joint-end _ _ _ _ c.loop-r.invariant.1 (omega arith)))
