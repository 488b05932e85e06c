-- The places before i had their turn (`TurnsTaken`), four at a time, and then those that are left. Assumes nothing.
use Prim.Native.Nat.{◌-◌, ◌≤◌}
use lib.ListN.{length}
use Rattle.formulas.specs.Marks.{TurnsTaken}
use Rattle.formulas.proofs.shares.sharing_pairs.Given as goal

abbrev pub invariant-loop-i : goal.invariant-loop-i
invariant-loop-i l = (l.i ≤ length l.held) × TurnsTaken l.held l.marks l.i l.n

abbrev pub decreases-loop-i : goal.decreases-loop-i
decreases-loop-i l = length l.held - l.i
