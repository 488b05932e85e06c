use native.Mathlib.Omega.{arith}
use lib.Dec.{eqb}
use Rattle.paper.specs.Lists.{nat}
use Rattle.paper.proofs.Count.{size-le}
use Rattle.rows.proofs.steps.count.evaluations.Goals as goal

pub overflow_add-count : goal.overflow_add-count
overflow_add-count c = omega (arith, c.loop-flag.invariant, size-le (λ u. eqb (nat c.args.flags.now u) 1) c.loop-flag.flag-index)
