-- A Boolean rule that never takes back over n variables, begun at false, is closed after n uses: each use before that adds a variable, or no later use adds one.
-- What it then holds is the least set that the rule is closed over. Assumes nothing.
use Prim.Native.Nat.{ℕ, zero, suc, ◌≤◌, ◌<◌}
use native.Mathlib.Nat.{le_refl, le_antisymm, not-suc-le-zero}
use native.Mathlib.Omega.{arith}
use mathlib.Core.Logic.{◌⊎◌, inl, inr}
use mathlib.Core.Bool.{Bool, true, false, cond, false≢true}
use mathlib.Core.Path.{◌≡◌, refl, ap, sym, ◌∙◌}
use lib.Dec.{ltb}
use borrow.Author.Tests.{ltb-true, ltb-false}
use Rattle.paper.specs.Lists.{size}
use Rattle.paper.specs.Net.{Rule, runs}
use Rattle.paper.proofs.Lists.{clash}
use Rattle.paper.proofs.Count.{size-le, size-full}

-- two tests that are passed together are one
pub both_ways : (a b : Bool) → (a ≡ true → b ≡ true) → (b ≡ true → a ≡ true) → a ≡ b
both_ways true b f g = sym (f refl)
both_ways false true f g = g refl
both_ways false false f g = refl

-- what passes p below n passes q
abbrev pub Within : ℕ → (ℕ → Bool) → (ℕ → Bool) → Type 0
Within n p q = (v : ℕ) → v < n → p v ≡ true → q v ≡ true

size-within : (p q : ℕ → Bool) (n : ℕ) → Within n p q → size p n ≤ size q n
size-within p q zero h = le_refl zero
size-within p q (suc n) h = go (p n) (q n) (h n (le_refl (suc n))) (size-within p q n (λ v l. h v (omega arith)))
  where
    go : (a b : Bool) → (a ≡ true → b ≡ true) → size p n ≤ size q n → cond a (suc (size p n)) (size p n) ≤ cond b (suc (size q n)) (size q n)
    go true true e i = omega arith
    go true false e i = absurd (false≢true (e refl))
    go false true e i = omega arith
    go false false e i = i

below-or-last : (n v : ℕ) → v < suc n → (v < n) ⊎ (v ≡ n)
below-or-last n v l = go (ltb v n) refl
  where
    go : (b : Bool) → ltb v n ≡ b → (v < n) ⊎ (v ≡ n)
    go true e = inl (ltb-true v n e)
    go false e = let h = ltb-false v n e in inr (omega arith)

-- a set within another is the same, or smaller
grows : (p q : ℕ → Bool) (n : ℕ) → Within n p q → Within n q p ⊎ (size p n < size q n)
grows p q zero h = inl (λ v l e. absurd (not-suc-le-zero l))
grows p q (suc n) h = go (p n) refl (q n) refl (grows p q n (λ v l. h v (omega arith))) (size-within p q n (λ v l. h v (omega arith)))
  where
    last : (q n ≡ true → p n ≡ true) → Within n q p → (v : ℕ) → (v < n) ⊎ (v ≡ n) → q v ≡ true → p v ≡ true
    last f w v (inl l) e = w v l e
    last f w v (inr s) e = ap p s ∙ f (sym (ap q s) ∙ e)

    go : (a : Bool) → p n ≡ a → (b : Bool) → q n ≡ b → Within n q p ⊎ (size p n < size q n) → size p n ≤ size q n
        → Within (suc n) q p ⊎ (cond a (suc (size p n)) (size p n) < cond b (suc (size q n)) (size q n))
    go true e true f (inl w) m = inl (λ v l. last (λ x. e) w v (below-or-last n v l))
    go true e true f (inr l) m = inr (omega arith)
    go true e false f i m = clash (h n (le_refl (suc n)) e) f
    go false e true f i m = inr (omega arith)
    go false e false f (inl w) m = inl (λ v l. last (λ x. clash x f) w v (below-or-last n v l))
    go false e false f (inr l) m = inr l

module _ (n : ℕ) (rule : Rule Bool) (mono : (f g : ℕ → Bool) → Within n f g → (v : ℕ) → rule f v ≡ true → rule g v ≡ true) where
  abbrev after : ℕ → ℕ → Bool
  after = runs rule (λ v. false)

  rise : (k v : ℕ) → after k v ≡ true → after (suc k) v ≡ true
  unfolding runs
  rise zero v e = absurd (false≢true e)
  rise (suc k) v e = mono (after k) (after (suc k)) (λ w l. rise k w) v e

  -- one more use adds nothing
  abbrev Still : ℕ → Type 0
  Still k = Within n (after (suc k)) (after k)

  still-suc : (k : ℕ) → Still k → Still (suc k)
  unfolding runs
  still-suc k h v l e = mono (after (suc k)) (after k) h v e

  counts : (k : ℕ) → Still k ⊎ (k ≤ size (after k) n)
  counts zero = inr (omega arith)
  counts (suc k) = go (counts k) (grows (after k) (after (suc k)) n (λ v l. rise k v))
    where
      go : Still k ⊎ (k ≤ size (after k) n) → Still k ⊎ (size (after k) n < size (after (suc k)) n) → Still (suc k) ⊎ (suc k ≤ size (after (suc k)) n)
      go (inl s) g = inl (still-suc k s)
      go (inr l) (inl s) = inl (still-suc k s)
      go (inr l) (inr g) = inr (omega arith)

  -- closed after n uses
  pub saturated : (v : ℕ) → v < n → rule (runs rule (λ w. false) n) v ≡ true → runs rule (λ w. false) n v ≡ true
  unfolding runs
  saturated v l e = go (counts n)
    where
      go : Still n ⊎ (n ≤ size (after n) n) → after n v ≡ true
      go (inl s) = s v l e
      go (inr full) = size-full (after n) n v (le_antisymm (size-le (after n) n) full) l

  pub settled : (v : ℕ) → v < n → runs rule (λ w. false) n v ≡ rule (runs rule (λ w. false) n) v
  unfolding runs
  settled v l = both_ways (after n v) (after (suc n) v) (rise n v) (saturated v l)

-- whatever the rule keeps to holds of all that is reached
pub least : (rule : Rule Bool) (P : ℕ → Type 0) → ((f : ℕ → Bool) → ((v : ℕ) → f v ≡ true → P v) → (v : ℕ) → rule f v ≡ true → P v)
    → (k v : ℕ) → runs rule (λ w. false) k v ≡ true → P v
unfolding runs
least rule P h zero v e = absurd (false≢true e)
least rule P h (suc k) v e = h (runs rule (λ w. false) k) (least rule P h k) v e
