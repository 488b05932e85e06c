use Rattle.std.proofs.Common.{arith, ◌≡◌, ◌+◌, ◌<◌, ◌≤◌, ◌∙◌, ap}
use Rattle.paper.specs.Lists.{nat}
use Rattle.groups.specs.Links.{links_of}
use Rattle.groups.proofs.Best.{asked-next}
use Rattle.groups.proofs.Marking.{stacked-few, stacked-below, part-at}
use Rattle.groups.proofs.stacks.group_number.Goals as goal

-- the places are those of the stack
pub slice_bounds-u-items-end : goal.slice_bounds-u-items-end
slice_bounds-u-items-end c =
    let few : c.wide-2.result + 1 ≤ 4097 = omega (arith, stacked-few _ _ _ c.requires.stacked, c.requires.laid.few, c.wide-2.ensures.0) in few

pub asks_of-requires-clause-there : goal.asks_of-requires-clause-there
asks_of-requires-clause-there c =
    let place = c.requires.stacked.back _ c.requires.waits.1 in
    let few = stacked-few _ _ _ c.requires.stacked in
    let long = c.told-stack in
    let at = part-at c.args.stack.now c.wide.result (c.wide-2.result + 1) c.loop-u.u-index
    (omega (arith, place.0, c.wide.ensures.0, c.wide-2.ensures.0)) (omega (arith, few, long, c.requires.laid.few, c.wide-2.ensures.0)) c.loop-u-test.true in
    let some : 0 < c.wide.result + c.loop-u.u-index = omega (arith, c.requires.waits.1.some, c.wide.ensures.0) in
    omega (arith, stacked-below _ _ _ c.requires.stacked (c.wide.result + c.loop-u.u-index) some (omega (arith, at.0, c.wide-2.ensures.0)), at.1, c.wide-in-loop-u.ensures.0)

pub loop-u-preserved : goal.loop-u-preserved
loop-u-preserved c =
    let place = c.requires.stacked.back _ c.requires.waits.1 in
    let few = stacked-few _ _ _ c.requires.stacked in
    let long = c.told-stack in
    let p = nat c.args.marks.now c.args.v in let i = c.loop-u.u-index in
    let at = part-at c.args.stack.now c.wide.result (c.wide-2.result + 1) i
    (omega (arith, place.0, c.wide.ensures.0, c.wide-2.ensures.0)) (omega (arith, few, long, c.requires.laid.few, c.wide-2.ensures.0)) c.loop-u-test.true in
    let same : p + i + 1 ≡ p + (i + 1) = omega arith in
    let more = asked-next (links_of c.args.links.now) c.args.marks.now c.args.stack.now c.args.numbers.now p _ (p + i) _ _ _ _
    (omega arith) c.loop-u.invariant (c.wide-in-loop-u.ensures.0 ∙ at.1 ∙ ap (λ w. nat c.args.stack.now (w + i)) c.wide.ensures.0) c.asks_of.ensures c.max-best.ensures in
    rw same at more
