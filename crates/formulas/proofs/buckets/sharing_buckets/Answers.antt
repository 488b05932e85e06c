use native.Mathlib.Omega.{arith}
use Rattle.formulas.proofs.Counting.{one-most, passed-most}
use Rattle.formulas.proofs.buckets.sharing_buckets.Goals as goal

pub overflow_add-n : goal.overflow_add-n
overflow_add-n c = omega (arith, one-most _ c.one_if-n.ensures, passed-most c.loop-x.invariant, c.requires.held_len_bound)
