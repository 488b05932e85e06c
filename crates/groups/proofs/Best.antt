-- The greatest of what places of the stack ask, place by place. Assumes nothing.
use Prim.Native.Nat.{ℕ, max, ◌+◌, ◌≤◌, ◌<◌}
use native.Mathlib.Nat.{lt_irrefl}
use native.Mathlib.Omega.{arith}
use mathlib.Core.List.{List}
use mathlib.Core.Logic.{◌⊎◌, inl, inr, ⊎_elim}
use mathlib.Core.Path.{◌≡◌, ap, ◌∙◌}
use Rattle.paper.specs.Lists.{nat}
use Rattle.paper.proofs.Lists.{same_or}
use Rattle.groups.specs.Asked.{asked_by}
use Rattle.groups.proofs.Asking.{low_or}
use Rattle.groups.specs.Stack.{asked_at, Best}

module _ (f : ℕ → ℕ) (p first : ℕ) where
  pub best-start : (i best : ℕ) → i ≡ p → best ≡ first → Best f p i first best
  best-start i best e q = record { first-in = omega arith; each = λ j a b. absurd (lt_irrefl j (omega arith)); hit = inl q }

  best-next : (i best x best' : ℕ) → p ≤ i → Best f p i first best → x ≡ f i → best' ≡ max best x → Best f p (i + 1) first best'
  best-next i best x best' l B e q = record {
    first-in = let h = B.first-in in omega arith;
    each = λ j a b. ⊎_elim (λ (s : j ≡ i). let z : f j ≡ f i = ap f s in omega arith) (λ s. let h = B.each j a (omega arith) in omega arith) (same_or j i);
    hit = go (low_or best x);
  }
    where
      go : (best < x) ⊎ (x ≤ best) → (best' ≡ first) ⊎ ((j : ℕ) × (p ≤ j) × (j < i + 1) × (best' ≡ f j))
      go (inl h) = inr (i, l, omega arith, omega arith)
      go (inr h) = ⊎_elim (λ z. inl (omega arith)) (λ (j, a, b, z). inr (j, a, omega arith, omega arith)) B.hit

-- w stands at place i of the stack
pub asked-next : (dep : ℕ → List ℕ) (marks stack numbers : List ℕ) (p first i best w x best' : ℕ) → p ≤ i → Best (asked_at dep marks stack numbers) p i first best → w ≡ nat stack i
    → x ≡ asked_by dep marks numbers w → best' ≡ max best x → Best (asked_at dep marks stack numbers) p (i + 1) first best'
asked-next dep marks stack numbers p first i best w x best' l B e q r =
    best-next (asked_at dep marks stack numbers) p first i best x best' l B (q ∙ ap (asked_by dep marks numbers) e) r
