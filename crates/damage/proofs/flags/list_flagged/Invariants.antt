-- What is stored stays the numbers passed whose flag is the one wanted (`Placed`); each turn adds one or none. Assumes nothing.
use Prim.Native.Nat.{◌≤◌}
use mathlib.Core.Bool.{cond, false}
use mathlib.Core.List.{[], ◌∷◌}
use lib.ListN.{get_or}
use Rattle.damage.specs.Flags.{flag_wanted}
use Rattle.damage.proofs.Stored.{Placed}
use Rattle.damage.proofs.flags.list_flagged.Given as goal

abbrev pub invariant-loop-i : goal.invariant-loop-i
invariant-loop-i l = (l.i ≤ l.n) × Placed (λ v. cond (flag_wanted l.wanted (get_or l.flags v false)) (v ∷ []) []) l.initial.list l.at l.list l.to l.i
