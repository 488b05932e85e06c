-- What a search from the front finds, of a range and of a slice: the least number that fails a test, or none; and whether one passes. Assumes nothing.
use Prim.Native.Nat.{ℕ, zero, suc, ◌+◌, ◌-◌, ◌≤◌, ◌<◌}
use native.Mathlib.Nat.{not-suc-le-zero}
use native.Mathlib.Numerals.{add-one}
use native.Mathlib.Omega.{arith}
use mathlib.Core.Bool.{Bool, true, false, not, ◌||◌}
use mathlib.Core.List.{List, [], ◌∷◌, Memᴰ}
use mathlib.Core.Path.{◌≡◌, refl, ap, sym, ◌∙◌, subst}
use lib.ListN.{length, take, drop, get_or}
use lib.Seq.{slice, length-slice, get_or-drop, drop-cons}
use Rattle.std.specs.Prelude.{Option, Some, None}
use Rattle.std.specs.Option.{MatchOption}
use Rattle.std.specs.List.{AllWithin, HoldsAt, list_any, range_with_len}
use Rattle.std.proofs.lemmas.List.{get_or-take, length-take-le}
use Rattle.std.proofs.lemmas.Slice.{between_is}
use Rattle.integers.specs.Below.{if_below}
use Rattle.integers.proofs.Below.{if_below-some, if_below-none}
use Rattle.paper.specs.Lists.{any, nat, first_fail}
use Rattle.paper.proofs.Least.{first_fail-is, first_fail-none}

-- ── the least number below n that passes a test ──
module _ (test : ℕ → Bool) (n : ℕ) where
  least-found : (i : ℕ) → i < n → test i ≡ true → ((k : ℕ) → k < i → test k ≡ false) → Some i ≡ if_below n (first_fail (λ v. not (test v)) n)
  least-found i l e h =
      if_below-some n i l ∙ ap (if_below n) (first_fail-is (λ v. not (test v)) n i l (ap not e) (λ k m. ap not (h k m)))

  none_found : ((k : ℕ) → k < n → test k ≡ false) → None ≡ if_below n (first_fail (λ v. not (test v)) n)
  none_found h = if_below-none n n (omega arith) ∙ ap (if_below n) (first_fail-none (λ v. not (test v)) n (λ k l. ap not (h k l)))

  pub found-in_range : (r : Option ℕ)
      → MatchOption r ((k : ℕ) → 0 ≤ k → k < n → test k ≡ false) (λ i. (0 ≤ i) × (i < n) × (test i ≡ true) × ((k : ℕ) → 0 ≤ k → k < i → test k ≡ false))
      → r ≡ if_below n (first_fail (λ v. not (test v)) n)
  found-in_range None h = none_found (λ k l. h k (omega arith) l)
  found-in_range (Some i) h = least-found i h.1 h.2 (λ k l. h.3 k (omega arith) l)

-- of a row's first n entries
module _ (test : ℕ → Bool) (row : List ℕ) (n : ℕ) (long : n ≤ length row) where
  pub found-in_front : (r : Option ℕ) → MatchOption r (AllWithin (λ x. test x ≡ false) (take n row) 0 (length (take n row)))
      (λ i. (i < length (take n row)) × HoldsAt (λ x. test x ≡ true) (take n row) i × AllWithin (λ x. test x ≡ false) (take n row) 0 i)
      → r ≡ if_below n (first_fail (λ v. not (test (nat row v))) n)
  found-in_front None h =
      let e = length-take-le n row long in
      none_found (λ v. test (nat row v)) n (λ k l. ap test (sym (get_or-take n row k 0 l)) ∙ h k 0 (omega arith) (omega arith))
  found-in_front (Some i) h =
      let e = length-take-le n row long in let inside = h.0 in let l : i < n = omega arith in
      least-found (λ v. test (nat row v)) n i l (ap test (sym (get_or-take n row i 0 l)) ∙ h.1 0)
      (λ k m. ap test (sym (get_or-take n row k 0 (omega arith))) ∙ h.2 k 0 (omega arith) m)

-- ── whether an entry passes ──
pub list_any-is : {A : Type 0} (p : A → Bool) (xs : List A) → list_any p xs ≡ any p xs
list_any-is p [] = refl
list_any-is p (x ∷ xs) = ap (p x ||◌) (list_any-is p xs)

-- the entry at a is the first of those from a on
left_at : (l : List ℕ) (a : ℕ) → a < length l → drop a l ≡ nat l a ∷ drop (a + 1) l
left_at l a h = drop-cons l a 0 h ∙ rw (add-one a) refl

-- of the entries from a on, n of them, read by their places
list_any-places : (f : ℕ → Bool) (l : List ℕ) (a n : ℕ) → (0 < n → a + n ≤ length l)
    → list_any (λ i. f (nat l i)) (range_with_len a n) ≡ any f (take n (drop a l))
list_any-places f l a zero h = refl
list_any-places f l a (suc n) h =
    let e = h (omega arith) in
    ap (f (nat l a) ||◌) (list_any-places f l (a + 1) n (λ k. omega arith))
    ∙ ap (λ (xs : List ℕ). any f (take (suc n) xs)) (sym (left_at l a (omega arith)))

pub list_any-part : (f : ℕ → Bool) (l : List ℕ) (a b : ℕ) → b ≤ length l → list_any (λ i. f (nat l i)) (range_with_len a (b - a)) ≡ any f (slice a b l)
list_any-part f l a b h = list_any-places f l a (b - a) (λ k. omega arith) ∙ ap (any f) (between_is l a b)

-- ── what lies below a bound ──
pub entries-low : (n : ℕ) (xs : List ℕ) → ((j : ℕ) → Memᴰ j xs → j < n) → (k d : ℕ) → k < length xs → get_or xs k d < n
entries-low n [] h k d l = absurd (not-suc-le-zero l)
entries-low n (x ∷ xs) h zero d l = h x (Memᴰ.head refl)
entries-low n (x ∷ xs) h (suc k) d l = entries-low n xs (λ j m. h j (Memᴰ.tail m)) k d (omega arith)

pub part-low : (n : ℕ) (l : List ℕ) (a b : ℕ) → b ≤ length l → ((j : ℕ) → Memᴰ j (slice a b l) → j < n) → (i : ℕ) → a ≤ i → i < b → nat l i < n
part-low n l a b h low i from below =
    let e = length-slice a b l h in let z : a + (i - a) ≡ i = omega arith in
    subst (λ x. x < n) (get_or-drop a (take b l) (i - a) 0 ∙ ap (nat (take b l)) z ∙ get_or-take b l i 0 below)
    (entries-low n (slice a b l) low (i - a) 0 (omega arith))
