-- Each variable's maker is written if it is marked (`Filled`). Assumes nothing.
use Prim.Native.Nat.{◌-◌, ◌≤◌}
use mathlib.Core.Bool.{cond}
use lib.Dec.{eqb}
use Rattle.paper.specs.Lists.{nat}
use Rattle.paper.proofs.Buffers.{Filled}
use Rattle.rows.proofs.steps.plan.plan_work.Given as goal

abbrev pub invariant-loop-v : goal.invariant-loop-v
invariant-loop-v l = (l.v ≤ l.n) × Filled (λ w. cond (eqb (nat l.marks w) 1) (nat l.by w) 0) l.initial.work l.work l.v

abbrev pub decreases-loop-v : goal.decreases-loop-v
decreases-loop-v l = l.n - l.v
