use Rattle.std.proofs.Common.{arith, true}
use Rattle.routes.specs.Reach.{Reached}
use Rattle.routes.specs.Sections.{made_from}
use Rattle.routes.proofs.Reach.{reached-still}
use Rattle.routes.proofs.Readers.{going-room, going_end, going-row, going-call, going_step}
use Rattle.routes.proofs.marks.+mark.Goals as goal
use Rattle.routes.proofs.marks.+mark.Goals.{then-marks-u-ne1, else-marks-u-ne1}

pub bounds-makes-wide : goal.bounds-makes-wide
bounds-makes-wide t c = going-row _ _ _ c.requires.upward _ _ _ _ _ c.loop-i.invariant c.requires.there c.loop-i-test.true _ c.wide.ensures.0

-- what the next reader makes: its distance is less, it has room, and it can be marked
pub bounds-marks-u : goal.bounds-marks-u
bounds-marks-u t c =
    let k = going-call _ _ _ c.requires.upward _ _ _ _ _ c.loop-i.invariant c.requires.there c.loop-i-test.true _ c.wide.ensures.0 _ c.wide-u.ensures.0 c.requires.markable.room in
    omega (arith, k.1, k.2.room)

pub mark-requires : goal.mark-requires
mark-requires t c =
    let k = going-call _ _ _ c.requires.upward _ _ _ _ _ c.loop-i.invariant c.requires.there c.loop-i-test.true _ c.wide.ensures.0 _ c.wide-u.ensures.0 c.requires.markable.room in
    (omega (arith, k.0, c.decreases), (c.requires.upward, (k.1, k.2)))

-- it is marked, whether it was before or not
pub loop-i-preserved : goal.loop-i-preserved
loop-i-preserved t c =
    let k = going-call _ _ _ c.requires.upward _ _ _ _ _ c.loop-i.invariant c.requires.there c.loop-i-test.true _ c.wide.ensures.0 _ c.wide-u.ensures.0 c.requires.markable.room in
    let w : Reached (λ u. true) (made_from c.args.makes.now c.args.index.now.starts.now c.args.index.now.places.now) c.wide-u.result c.loop-i.marks c.if-marks-u-ne1.marks
    = elim c.if-marks-u-ne1.branch [
      | then-marks-u-ne1 w ↦ rw w.marks-is w.mark.ensures
      | else-marks-u-ne1 w ↦ rw w.marks-is (reached-still _ _ _ _ k.2.closed (λ z. w.if-marks-u-ne1.false))
    ] in
    going_step _ _ _ c.requires.upward _ _ _ _ _ c.loop-i.invariant c.requires.there c.loop-i-test.true _ c.wide.ensures.0 _ c.wide-u.ensures.0 _ w

pub returns : goal.returns
returns t c =
    going_end _ _ _ c.requires.upward _ _ _ _ _ c.loop-i.invariant c.loop-i-test.false
    (omega (arith, c.requires.there, going-room _ _ _ c.requires.upward _ _ _ _ _ c.loop-i.invariant c.requires.markable.room))
