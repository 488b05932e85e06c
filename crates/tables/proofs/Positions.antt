-- The first entry of a list that fails a test, as `position` finds it, the first number below a bound, as `find` does, and whether all pass, as `all` says it. Assumes nothing.
use Prim.Native.Nat.{ℕ, suc, ◌≤◌, ◌<◌}
use native.Mathlib.Nat.{le_refl}
use native.Mathlib.Omega.{arith}
use mathlib.Core.Bool.{Bool, true, false, ◌&&◌}
use mathlib.Core.List.{List, [], ◌∷◌}
use mathlib.Core.Path.{◌≡◌, refl, ap, ap₂, sym, ◌∙◌}
use lib.ListN.{length, get_or, take}
use lib.Seq.{get_or-take, length-take-le}
use Rattle.std.specs.Prelude.{Option, Some, None, MatchOption}
use Rattle.std.specs.Bool.{MatchBool}
use Rattle.std.specs.List.{AllWithin, HoldsAt, range_with_len}
use Rattle.std.proofs.lemmas.List.FromFn.{length-range_with_len, get_or-range_with_len}
use Rattle.integers.specs.Below.{if_below}
use Rattle.paper.specs.Lists.{all, first_fail, all_below}
use Rattle.paper.proofs.Lists.{all-at}
use Rattle.paper.proofs.Least.{all_below-at, below_all}
use Rattle.paper.proofs.Scan.{scan-some, scan-none}

module _ {A : Type 0} (p : A → Bool) (d : A) where
  -- what `position` answers: none fails, or the one at a place does and none before it
  abbrev pub Found : List A → Option ℕ → Type 0
  Found xs r = MatchOption r (AllWithin (λ x. p x ≡ true) xs 0 (length xs)) (λ i. (i < length xs) × HoldsAt (λ x. p x ≡ false) xs i × AllWithin (λ x. p x ≡ true) xs 0 i)

  -- what `all` answers
  abbrev pub Told : List A → Bool → Type 0
  Told xs r = MatchBool r (AllWithin (λ x. p x ≡ true) xs 0 (length xs)) ((k : ℕ) × (k < length xs) × HoldsAt (λ x. p x ≡ false) xs k)

  all-each : (xs : List A) → ((i : ℕ) → i < length xs → p (get_or xs i d) ≡ true) → all p xs ≡ true
  all-each [] h = refl
  all-each (x ∷ xs) h = ap₂ ◌&&◌ (h 0 (omega arith)) (all-each xs (λ i k. h (suc i) (omega arith)))

  pub all-told : (xs : List A) (r : Bool) → Told xs r → r ≡ all p xs
  all-told xs true h = sym (all-each xs (λ i l. h i d (omega arith) l))
  all-told xs false h = go (all p xs) refl
    where
      go : (b : Bool) → all p xs ≡ b → false ≡ b
      go false e = refl
      go true e = sym (h.2 d) ∙ all-at p xs e h.0 d h.1

  -- among the first m entries of a list
  pub first-position : (m : ℕ) (xs : List A) (r : Option ℕ) → m ≤ length xs → Found (take m xs) r → r ≡ if_below m (first_fail (λ i. p (get_or xs i d)) m)
  first-position m xs None long h =
      let few = length-take-le m xs long in
      scan-none (λ i. p (get_or xs i d)) m m (record { low = le_refl m; good = λ j l. ap p (sym (get_or-take m xs j d l)) ∙ h j d (omega arith) (omega arith) }) (le_refl m)
  first-position m xs (Some i) long h =
      let few = length-take-le m xs long in let low = h.0 in
      scan-some (λ j. p (get_or xs j d)) m i
      (record { low = omega arith; good = λ j l. ap p (sym (get_or-take m xs j d (omega arith))) ∙ h.2 j d (omega arith) l }) (omega arith)
      (ap p (sym (get_or-take m xs i d (omega arith))) ∙ h.1 d)

-- the first number below a bound that fails a test, as `find` finds it
pub first-found : (p : ℕ → Bool) (m : ℕ) (r : Option ℕ)
    → MatchOption r ((k : ℕ) → 0 ≤ k → k < m → p k ≡ true) (λ i. (0 ≤ i) × (i < m) × (p i ≡ false) × ((k : ℕ) → 0 ≤ k → k < i → p k ≡ true)) → r ≡ if_below m (first_fail p m)
first-found p m None h = scan-none p m m (record { low = le_refl m; good = λ j l. h j (omega arith) l }) (le_refl m)
first-found p m (Some i) h = let low = h.1 in scan-some p m i (record { low = omega arith; good = λ j l. h.3 j (omega arith) l }) low h.2

-- and whether all below a bound pass, as `all` over a range says it
module _ (p : ℕ → Bool) (n : ℕ) where
  at : (k : ℕ) → k < n → get_or (range_with_len 0 n) k 0 ≡ k
  at k h = get_or-range_with_len 0 n k 0 h ∙ omega arith

  one-fails : (k : ℕ) → k < n → p k ≡ false → (b : Bool) → b ≡ all_below p n → b ≡ false
  one-fails k l e true q = sym (all_below-at p n (sym q) k l) ∙ e
  one-fails k l e false q = refl

  pub all-below-told : (r : Bool)
      → MatchBool r (AllWithin (λ k. p k ≡ true) (range_with_len 0 n) 0 (length (range_with_len 0 n)))
      ((k : ℕ) × (k < length (range_with_len 0 n)) × HoldsAt (λ k. p k ≡ false) (range_with_len 0 n) k)
      → r ≡ all_below p n
  all-below-told true h =
      let long = length-range_with_len 0 n in
      sym (below_all p n (λ k l. ap p (sym (at k l)) ∙ h k 0 (omega arith) (omega arith)))
  all-below-told false h =
      let long = length-range_with_len 0 n in let inside = h.1 in let l : h.0 < n = omega arith in
      sym (one-fails h.0 l (ap p (sym (at h.0 l)) ∙ h.2 0) _ refl)
