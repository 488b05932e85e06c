-- The bytes passed stand in their places, and with those that are left stored too the number does (`Stored`). Assumes nothing.
use Prim.Native.Nat.{◌-◌}
use Rattle.fields.proofs.Widths.{Stored}
use Rattle.fields.proofs.put.Given as goal

abbrev pub invariant-loop-k : goal.invariant-loop-k
invariant-loop-k l = Stored l.initial.bytes l.at l.width l.x l.bytes l.k

abbrev pub decreases-loop-k : goal.decreases-loop-k
decreases-loop-k l = l.width - l.k
