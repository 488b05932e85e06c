use Prim.Native.Nat.{◌-◌, ◌<◌}
use native.Mathlib.Omega.{arith}
use Rattle.tables.proofs.Made.{cleared, filling-start, filling-next, filling-end}
use Rattle.tables.proofs.maker.makers.Goals as goal

pub loop-row-init : goal.loop-row-init
loop-row-init c = filling-start _ _ _ _ _ c.requires.m_in_bounds.1 (cleared c.args.n c.args.by.now _ c.requires.m_in_bounds.1 (c.fill.ensures.after (λ y k. k)))

pub loop-row-preserved : goal.loop-row-preserved
loop-row-preserved c =
    let low = c.loop-row.invariant.low in let w = c.wide.ensures in
    let known : c.wide.result < c.args.n = omega (arith, c.requires.all_below.at (c.loop-row.row - 1) (omega arith)) in
    filling-next _ _ _ _ _ c.loop-row.row (c.loop-row.row - 1) _ _ c.loop-row.invariant (omega arith) c.requires.m_in_bounds.0 (omega arith) c.wide.ensures.0 known

pub returns : goal.returns
returns c =
    filling-end _ _ _ _ _ _ c.loop-row.row c.loop-row.invariant (omega arith) c.requires.m_in_bounds.0
    (cleared c.args.n c.args.by.now _ c.requires.m_in_bounds.1 (c.fill.ensures.after (λ y k. k)))
