-- The results before this one are the asked values, and the rest as they were (`Filled`). Assumes nothing.
use Prim.Native.Nat.{◌-◌, ◌≤◌}
use lib.IntN.{pos}
use lib.ListN.{length, get_or}
use Rattle.paper.specs.Lists.{nat}
use Rattle.paper.proofs.Buffers.{Filled}
use Rattle.rows.proofs.copies.copy.copy_asked.Given as goal

abbrev pub invariant-loop-i : goal.invariant-loop-i
invariant-loop-i l = (l.i ≤ length l.asked) × Filled (λ k. get_or l.values (nat l.asked k) (pos 0)) l.initial.results l.results l.i

abbrev pub decreases-loop-i : goal.decreases-loop-i
decreases-loop-i l = length l.asked - l.i
