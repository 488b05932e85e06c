-- The values of the pairs before this one are laid in their row, and the rest is as it was (`Laid`). Assumes nothing.
use Prim.Native.Nat.{◌-◌, ◌≤◌}
use lib.IntN.{pos}
use lib.ListN.{get_or}
use Rattle.paper.specs.Lists.{nat}
use Rattle.move_log.proofs.Laid.{Laid}
use Rattle.move_log.proofs.rooms.write_pairs.Given as goal

abbrev pub invariant-loop-i : goal.invariant-loop-i
invariant-loop-i l = (l.i ≤ l.mv.pairs) × Laid (λ i. get_or l.stored (nat l.mv.vars.now i) (pos 0)) l.at l.initial.log_values l.log_values l.i

abbrev pub decreases-loop-i : goal.decreases-loop-i
decreases-loop-i l = l.mv.pairs - l.i
