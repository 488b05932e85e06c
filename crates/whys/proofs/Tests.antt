-- The tests of the code are those of the definition: all inputs are blank if as many as there are hold blank, a window without departures ends no later
-- than it starts, and an index picks one of the candidates if it is below 0 nor past the last. Assumes nothing.
use Prim.Native.Nat.{ℕ, suc, ◌+◌, ◌-◌, ◌*◌, ◌≤◌, ◌<◌, zero-le}
use native.Mathlib.Omega.{arith}
use native.Mathlib.Numerals.{add-one}
use mathlib.Core.Bool.{Bool, true, false, cond, not, ◌&&◌, ◌||◌, true≢false}
use mathlib.Core.List.{List, [], ◌∷◌}
use mathlib.Core.Logic.{◌⊎◌, ⊎_elim}
use mathlib.Core.Path.{◌≡◌, refl, ap, sym, ◌∙◌}
use borrow.Author.Tests.{ltb-true, ltb-false, le-leb, lt-leb, le-ltb, not-true, not-false, eqb-true, eqb-false, eq-eqb, ne_eqb}
use lib.Dec.{eqb, leb, ltb, leb-suc-suc}
use lib.IntN.{ℤ, pos, negsuc, nat_abs, ◌+ℤ◌, +ℤ_idr}
use lib.ListN.{length}
use lib.Signed.{lt_z, le_z}
use Rattle.integers.specs.Integers.{eq_z}
use Rattle.integers.proofs.Order.{lt_yes, lt_no, yes_le, no_le, le-lt}
use Rattle.paper.specs.Lists.{all, tally}
use Rattle.paper.specs.Formula.{blank, some_blank, trips, input_at}
use Rattle.paper.specs.Reason.{all_blank, inside, choice_blank, outside_index, why}
use Rattle.paper.proofs.Formulas.{tally-le}
use Rattle.paper.proofs.Windows.{reached, counted}

-- ── all inputs ──
pub all-tally : (p : ℤ → Bool) (xs : List ℤ) → all p xs ≡ leb (length xs) (tally p xs)
all-tally p [] = refl
all-tally p (x ∷ xs) = go (p x) (all-tally p xs) (tally-le p xs)
  where
    go : (b : Bool) → all p xs ≡ leb (length xs) (tally p xs) → tally p xs ≤ length xs → (b && all p xs) ≡ leb (suc (length xs)) (cond b 1 0 + tally p xs)
    go true e h = let q : 1 + tally p xs ≡ suc (tally p xs) = omega arith in rw q (e ∙ sym (leb-suc-suc (length xs) (tally p xs)))
    go false e h = sym (lt-leb (suc (length xs)) (0 + tally p xs) (omega arith))

-- ── a window, of a headway above 0 ──
pub no-times : (start end headway : ℤ) → le_z headway (pos 0) ≡ false → le_z end start ≡ eqb (trips start end headway) 0
no-times start end headway q = go (lt_z start end) refl (trips start end headway) refl
  where
    above : lt_z (pos 0) headway ≡ true
    above = le-lt headway (pos 0) q

    first : lt_z start end ≡ ltb 0 (trips start end headway)
    first =
        let none : 0 * nat_abs headway ≡ 0 = omega arith in
        ap (λ z. lt_z z end) (sym ((reached start headway 0 above).0 ∙ ap (λ k. start +ℤ pos k) none ∙ +ℤ_idr start)) ∙ counted start end headway above 0

    go : (b : Bool) → lt_z start end ≡ b → (n : ℕ) → trips start end headway ≡ n → le_z end start ≡ eqb n 0
    go true e n k =
        let some = ltb-true 0 n (sym (first ∙ ap (ltb 0) k) ∙ e) in
        no_le end start (omega (arith, lt_yes start end e)) ∙ sym (ne_eqb n 0 (λ z. omega arith))
    go false e n k =
        let none = ltb-false 0 n (sym (first ∙ ap (ltb 0) k) ∙ e) in
        yes_le end start (omega (arith, lt_no start end e)) ∙ sym (eq-eqb n 0 (omega arith))

-- ── ELEMENT ──
pub below : (z : ℤ) (count : ℕ) → lt_z z (pos 0) ≡ true → true ≡ not (inside z count)
below (pos i) count e = absurd (omega (arith, ltb-true i 0 e))
below (negsuc i) count e = refl

pub beyond : (z : ℤ) (count : ℕ) → lt_z z (pos 0) ≡ false → leb count (nat_abs z) ≡ not (inside z count)
beyond (pos i) count e = go (ltb i count) refl
  where
    go : (b : Bool) → ltb i count ≡ b → leb count i ≡ not b
    go true q = lt-leb count i (ltb-true i count q)
    go false q = le-leb count i (ltb-false i count q)
beyond (negsuc i) count e = absurd (true≢false e)

-- an index that picks one
pub record Picks (z : ℤ) (count : ℕ) : Type 0 where
  pub not-below : lt_z z (pos 0) ≡ false
  pub low : nat_abs z < count

pub picks : (z : ℤ) (count : ℕ) → not (inside z count) ≡ false → Picks z count
picks (pos i) count e = record { not-below = le-ltb i 0 zero-le; low = ltb-true i count (not-false (ltb i count) e) }
picks (negsuc i) count e = absurd (true≢false e)

pub outside-is : (xs : List ℤ) → 0 < length xs → not (inside (input_at xs 0) (length xs - 1)) ≡ outside_index xs
outside-is [] h = absurd (omega arith)
outside-is (x ∷ xs) h = let q : suc (length xs) - 1 ≡ length xs = omega arith in rw q

-- an index that picks none is blank or not, and of one that picks the candidate is
pub none-picked : (xs : List ℤ) → 0 < length xs → not (inside (input_at xs 0) (length xs - 1)) ≡ true → eq_z (input_at xs 0) blank ≡ choice_blank xs
none-picked [] h e = absurd (omega arith)
none-picked (x ∷ xs) h e = let q : suc (length xs) - 1 ≡ length xs = omega arith in rw (not-true (inside x (length xs)) (rw q at e)) (go (eq_z x blank))
  where
    go : (b : Bool) → b ≡ (b || false)
    go true = refl
    go false = refl

pub one-picked : (xs : List ℤ) → 0 < length xs → not (inside (input_at xs 0) (length xs - 1)) ≡ false → eq_z (input_at xs (nat_abs (input_at xs 0) + 1)) blank ≡ choice_blank xs
one-picked [] h e = absurd (omega arith)
one-picked (pos i ∷ xs) h e = let q : suc (length xs) - 1 ≡ length xs = omega arith in rw (add-one i, not-false (ltb i (length xs)) (rw q at e))
one-picked (negsuc i ∷ xs) h e = absurd (true≢false e)

-- ── every other kind ──
pub of-extremes : (kind : ℕ) (xs : List ℤ) → 2 ≤ kind → kind < 4 → cond (all_blank xs) 4 1 ≡ why kind xs
unfolding why
of-extremes kind xs low high = go (eqb kind 2) refl
  where
    go : (b : Bool) → eqb kind 2 ≡ b → cond (all_blank xs) 4 1 ≡ why kind xs
    go true e = rw (eqb-true kind 2 e)
    go false e = let other = eqb-false kind 2 e in let three : kind ≡ 3 = omega arith in rw three

pub of_others : (kind : ℕ) (xs : List ℤ) → (kind < 2) ⊎ (4 ≤ kind) → (kind ≡ 4 → ⊥) → (kind ≡ 8 → ⊥) → (kind ≡ 9 → ⊥) → cond (some_blank xs) 4 1 ≡ why kind xs
unfolding why
of_others kind xs side four eight nine =
    simp (ne_eqb kind 2 (⊎_elim (λ l e. omega arith) (λ l e. omega arith) side), ne_eqb kind 3 (⊎_elim (λ l e. omega arith) (λ l e. omega arith) side), ne_eqb kind 4 four, ne_eqb kind 8 eight, ne_eqb kind 9 nine)
