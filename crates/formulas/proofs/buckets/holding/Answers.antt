use native.Mathlib.Omega.{arith}
use Rattle.formulas.proofs.Counting.{passed-most}
use Rattle.formulas.proofs.buckets.holding.Goals as goal

pub overflow_add-n : goal.overflow_add-n
overflow_add-n c = omega (arith, passed-most c.loop-x.invariant, c.requires)
