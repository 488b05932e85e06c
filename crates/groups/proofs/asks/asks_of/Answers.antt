use Rattle.std.proofs.Common.{arith, ap₂, ◌∙◌, ◌≤◌, length}
use Rattle.std.proofs.Math.Seq.{slice}
use Rattle.order.proofs.Extremes.{max-is}
use Rattle.order.proofs.Visits.{left-next, left-none}
use Rattle.groups.proofs.Asking.{asking-start, asking-end, asking-below, asking-next}
use Rattle.groups.proofs.asks.asks_of.Goals as goal

pub loop-i-init : goal.loop-i-init
loop-i-init c =
    asking-start _ _ _ _ (ap₂ (λ a b. slice a b c.args.links.now.vars.now) c.wide-i.ensures.0 c.wide-i-end.ensures.0) (c.requires.laid.below _)

-- the next link is the first of those that are left
pub asks-requires : goal.asks-requires
asks-requires c =
    let inside : c.wide-i-end.result ≤ length c.args.links.now.vars.now = omega (arith, c.requires.laid.inside c.args.v) in
    let low = asking-below _ _ _ _ _ c.loop-i.invariant _ _ (left-next _ _ _ _ c.loop-i-test.true inside c.wide.ensures.0) in
    omega (arith, low, c.requires.laid.few)

pub loop-i-preserved : goal.loop-i-preserved
loop-i-preserved c =
    let inside : c.wide-i-end.result ≤ length c.args.links.now.vars.now = omega (arith, c.requires.laid.inside c.args.v) in
    asking-next _ _ _ _ _ c.loop-i.invariant _ _ (left-next _ _ _ _ c.loop-i-test.true inside c.wide.ensures.0) _ _ c.asks.ensures
    (c.max-best.ensures ∙ max-is c.loop-i.best c.asks.result)

pub returns : goal.returns
returns c = asking-end _ _ _ _ _ c.loop-i.invariant (left-none _ _ _ c.loop-i-test.false)
