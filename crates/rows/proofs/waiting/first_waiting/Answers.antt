-- The search finds the first whose value does not stand (`first-position`). Assumes nothing.
use Prim.Native.Nat.{ℕ}
use mathlib.Core.Bool.{true, false}
use mathlib.Core.Path.{◌≡◌}
use lib.Dec.{eqb}
use lib.ListN.{take}
use borrow.Author.Rules.{rules}
use borrow.Author.Tests.{tests}
use native.Mathlib.Omega.{arith}
use Rattle.std.proofs.lemmas.Iterator.{IsFirst-from_position, YieldsList-from_slice}
use Rattle.tables.proofs.Positions.{first-position}
use Rattle.rows.proofs.waiting.first_waiting.Goals as goal

pub returns : goal.returns
returns c =
    let a = c.args in
    first-position (λ (s : ℕ). eqb s 2) 0 a.n a.states.now _ (omega arith)
    (IsFirst-from_position _ _ _ (λ s. eqb s 2 ≡ false) (λ s. eqb s 2 ≡ true) c.position.ensures.ran (YieldsList-from_slice (take a.n a.states.now) cc)
    (λ x q k. search (rules, tests)) (λ x q k. search (rules, tests)))
