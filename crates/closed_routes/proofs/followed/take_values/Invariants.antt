-- The places passed hold what is picked, the others what they held (`Filled`). Assumes nothing.
use mathlib.Core.Bool.{cond}
use lib.Dec.{eqb}
use Rattle.paper.specs.Lists.{nat}
use Rattle.paper.proofs.Buffers.{Filled}
use Rattle.routes.specs.Rows.{values_of}
use Rattle.closed_routes.proofs.followed.take_values.Given as goal

abbrev pub invariant-loop-v : goal.invariant-loop-v
invariant-loop-v l =
    Filled (λ v. cond (eqb (nat l.flags v) 1) (values_of l.values v) (values_of l.initial.trial v)) l.initial.trial l.trial l.v
