use Rattle.std.proofs.Common.{arith, ◌≡◌, ◌+◌, ◌≤◌, ◌∙◌}
use Rattle.groups.proofs.Marking.{stacked-few, marked_next, part-at}
use Rattle.groups.proofs.stacks.mark_group.Goals as goal

-- the places are those of the stack
pub slice_bounds-u-items-end : goal.slice_bounds-u-items-end
slice_bounds-u-items-end c =
    let few : c.wide.result + 1 ≤ 4097 = omega (arith, stacked-few _ _ _ c.requires.stacked, c.requires.there.0, c.wide.ensures.0) in few

pub loop-u-preserved : goal.loop-u-preserved
loop-u-preserved c =
    let few = stacked-few _ _ _ c.requires.stacked in
    let long = c.told-stack in
    let p = c.args.p in let i = c.loop-u.u-index in
    let at = part-at c.args.stack.now p (c.wide.result + 1) i
    (omega (arith, c.requires.place.1, c.wide.ensures.0)) (omega (arith, few, long, c.requires.there.0, c.wide.ensures.0)) c.loop-u-test.true in
    let same : p + i + 1 ≡ p + (i + 1) = omega arith in
    let more = marked_next _ _ _ c.requires.stacked c.requires.there.0 p _ _ _ c.requires.place.0 (p + i) _ _ _ c.requires.there.1 (omega arith)
    (omega (arith, at.0, c.wide.ensures.0)) (c.wide-v.ensures.0 ∙ at.1) c.loop-u.invariant in
    rw same at more
