use native.Mathlib.Omega.{arith}
use lib.IntN.{pos}
use lib.ListN.{get_or}
use borrow.Author.Rules.{rules}
use mir.Syntax.{w32}
use mir.Val.{SFits}
use mir.Facts.{to_z-of_z}
use Rattle.paper.proofs.Scan.{joint-start, joint-next, joint-end}
use Rattle.checks.proofs.bounds.all_bounds_good.Goals as goal

pub loop-v-init : goal.loop-v-init
loop-v-init c = joint-start _ _

pub loop-v-preserved : goal.loop-v-preserved
loop-v-preserved c =
    let b = c.args.bounds.now in let l = c.loop-v in
    let low : SFits w32 (get_or b.lows.now l.v (pos 0)) = search rules in
    let high : SFits w32 (get_or b.highs.now l.v (pos 0)) = search rules in
    joint-next _ _ _ _ _ l.invariant (omega arith) (simp (to_z-of_z low, to_z-of_z high) at c.bound_good-good.ensures)

pub returns : goal.returns
returns c = joint-end _ _ _ _ c.loop-v.invariant (omega arith)
