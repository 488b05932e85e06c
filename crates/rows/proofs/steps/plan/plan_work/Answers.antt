use native.Mathlib.Omega.{arith}
use borrow.Author.Rules.{rules}
use Rattle.paper.proofs.Buffers.{filled-start, filled_next, filled-end}
use Rattle.rows.proofs.steps.plan.plan_work.Goals as goal

pub loop-v-init : goal.loop-v-init
loop-v-init c = (omega arith, filled-start _ _)

pub bounds-work-v : goal.bounds-work-v
bounds-work-v c = let k = c.loop-v.invariant.1.long in omega (arith, k)

pub loop-v-preserved : goal.loop-v-preserved
loop-v-preserved c = let l = c.loop-v in (omega arith, filled_next _ _ _ _ l.invariant.1 (search rules) c.if_marked.ensures)

pub returns : goal.returns
returns c = let s = c.before.before.before.before.before.before in filled-end _ _ _ _ s.args.n c.loop-v.invariant.1 (omega arith)
