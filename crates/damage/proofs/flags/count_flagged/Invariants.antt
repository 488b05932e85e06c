-- The count stays how many of the numbers passed have the flag wanted. Assumes nothing.
use Prim.Native.Nat.{◌≤◌}
use mathlib.Core.Path.{◌≡◌}
use lib.ListN.{length}
use Rattle.damage.specs.Flags.{flagged}
use Rattle.damage.proofs.flags.count_flagged.Given as goal

abbrev pub invariant-loop-flag : goal.invariant-loop-flag
invariant-loop-flag l = (l.flag-index ≤ l.n) × (l.k ≡ length (flagged l.wanted l.flags l.flag-index))
