use Rattle.std.proofs.Common.{arith, suc, ◌<◌, length, sym, subst}
use Rattle.routes.proofs.Members.{at_place}
use Rattle.routes.proofs.Passing.{passed-yes, passed-no, passed-end}
use Rattle.routes.proofs.marks.mark_moved.Goals as goal
use Rattle.routes.proofs.marks.mark_moved.Goals.{then-moved, else-moved}

-- the named variable is one of the index
pub moved-requires : goal.moved-requires
moved-requires c =
    let low = subst (λ v. suc v < length c.args.index.now.starts.now) (sym c.wide-v.ensures.0) (c.requires.movable.low _ (at_place c.args.moves.now c.loop-m.m-index c.loop-m-test.true)) in
    (omega (arith, low, c.requires.movable.in-stored), omega (arith, low, c.requires.movable.in-trial))

pub mark-requires-clause-there : goal.mark-requires-clause-there
mark-requires-clause-there c =
    subst (λ v. suc v < length c.args.index.now.starts.now) (sym c.wide-v.ensures.0) (c.requires.movable.low _ (at_place c.args.moves.now c.loop-m.m-index c.loop-m-test.true))

pub loop-m-preserved : goal.loop-m-preserved
loop-m-preserved c =
    elim c.if-moved.branch [
      | then-moved w ↦ rw w.marks-is (passed-yes _ _ c.args.stored.now c.args.trial.now _ c.loop-m.m-index _ c.loop-m.invariant c.loop-m-test.true _ c.wide-v.ensures.0 _ c.moved.ensures w.if-moved.true _ w.mark.ensures)
      | else-moved w ↦ rw w.marks-is (passed-no _ _ c.args.stored.now c.args.trial.now _ c.loop-m.m-index _ c.loop-m.invariant c.loop-m-test.true _ c.wide-v.ensures.0 _ c.moved.ensures w.if-moved.false)
    ]

pub returns : goal.returns
returns c = passed-end _ _ c.args.stored.now c.args.trial.now _ c.loop-m.m-index _ c.loop-m.invariant c.loop-m-test.false
