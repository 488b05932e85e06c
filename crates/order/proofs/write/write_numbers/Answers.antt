use Rattle.std.proofs.Common.{arith, ◌≡◌, ◌-◌, ◌++◌, length, drop, sym, ◌∙◌}
use lib.ListN.{get_or-append, take-append-drop}
use lib.Seq.{set-append_left, length-take-le}
use Rattle.paper.specs.Lists.{nat}
use Rattle.paper.proofs.Buffers.{filled-start, filled_next, filled-end, filled-still}
use Rattle.order.proofs.write.write_numbers.Goals as goal

pub loop-s-init : goal.loop-s-init
loop-s-init c = rw (take-append-drop c.args.tables.now.n c.args.state.now) (filled-start _ _)

-- what stands at the next place is what stood there
still : (c : goal.After-row_known-1) → nat c.loop-s.s-items c.loop-s.s-index ≡ nat c.args.state.now c.loop-s.s-index
still c =
    let long = c.loop-s.auto.s-items in
    sym (get_or-append c.loop-s.s-items (drop c.args.tables.now.n c.args.state.now) 0 c.loop-s.s-index (let t = c.loop-s-test.true in omega arith))
    ∙ filled-still _ _ _ _ 0 c.loop-s.invariant

pub overflow_sub-s : goal.overflow_sub-s
overflow_sub-s c =
    let t = c.loop-s-test.true in let few = length-take-le _ _ c.requires.there in
    omega (arith, still c, c.requires.numbered.at c.loop-s.s-index (omega arith))

pub loop-s-preserved : goal.loop-s-preserved
loop-s-preserved c =
    let long = c.loop-s.auto.s-items in let t = c.loop-s-test.true in let few = length-take-le _ _ c.requires.there in
    rw (← set-append_left c.loop-s.s-items (drop c.args.tables.now.n c.args.state.now) c.loop-s.s-index (nat c.loop-s.s-items c.loop-s.s-index - 2) (omega arith))
    (filled_next _ _ _ _ c.loop-s.invariant (let there = c.requires.there in omega arith)
    (let is = still c in let at = c.requires.numbered.at c.loop-s.s-index (omega arith) in omega arith))

pub returns : goal.returns
returns c =
    let f = c.loop-s-test.false in let e = c.loop-s.auto.s-index-end in let few = length-take-le _ _ c.requires.there in
    filled-end _ _ _ _ c.args.tables.now.n c.loop-s.invariant (omega arith)
