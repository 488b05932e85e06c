use Rattle.std.proofs.Common.{arith, suc, ◌<◌, length, sym, subst}
use Rattle.routes.proofs.Members.{at_place}
use Rattle.closed_routes.proofs.Walks.{walked-reached}
use Rattle.routes.proofs.Passing.{passed-yes, passed-no, passed-end}
use Rattle.probes.proofs.touch.touch_moved.Goals as goal
use Rattle.probes.proofs.touch.touch_moved.Goals.{then-moved, else-moved}

-- the named variable is one of the index
pub moved-requires : goal.moved-requires
moved-requires c =
    let low = subst (λ v. suc v < length c.args.index.now.starts.now) (sym c.wide-v.ensures.0) (c.requires.movable.low _ (at_place c.args.moves.now c.loop-m.m-index c.loop-m-test.true)) in
    (omega (arith, low, c.requires.movable.in-stored), omega (arith, low, c.requires.movable.in-trial))

pub touch-count-requires-clause-there : goal.touch-count-requires-clause-there
touch-count-requires-clause-there c =
    let low = subst (λ v. suc v < length c.args.index.now.starts.now) (sym c.wide-v.ensures.0) (c.requires.movable.low _ (at_place c.args.moves.now c.loop-m.m-index c.loop-m-test.true)) in
    (low, omega (arith, c.requires.markable.room, c.loop-m.invariant.0.long), c.wide-v.ensures.1)

pub loop-m-preserved : goal.loop-m-preserved
loop-m-preserved c =
    elim c.if-moved.branch [
      | then-moved w ↦ rw (w.marks-is, w.work-is, w.touched-is, w.count-is)
          (passed-yes _ _ c.args.stored.now c.args.trial.now _ c.loop-m.m-index _ c.loop-m.invariant.0 c.loop-m-test.true _ c.wide-v.ensures.0 _ c.moved.ensures w.if-moved.true _ (walked-reached _ _ _ _ _ c.loop-m.invariant.0.closed w.touch-count.ensures.walked), w.touch-count.ensures.noted)
      | else-moved w ↦ rw (w.marks-is, w.work-is, w.touched-is, w.count-is)
          (passed-no _ _ c.args.stored.now c.args.trial.now _ c.loop-m.m-index _ c.loop-m.invariant.0 c.loop-m-test.true _ c.wide-v.ensures.0 _ c.moved.ensures w.if-moved.false, c.loop-m.invariant.1)
    ]

pub returns-clause-marked : goal.returns-clause-marked
returns-clause-marked c = passed-end _ _ c.args.stored.now c.args.trial.now _ c.loop-m.m-index _ c.loop-m.invariant.0 c.loop-m-test.false
