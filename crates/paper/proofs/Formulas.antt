-- Each formula does what the paper's sentence says of it. The sentences speak of places and the definitions run along the list of inputs;
-- the laws say that this comes to the same. What DEPARTURES and LAST give is in `Windows`. Assumes nothing.
use Prim.Native.Nat.{ℕ, zero, suc, ◌+◌, ◌≤◌, ◌<◌, zero-le}
use native.Mathlib.Omega.{arith}
use mathlib.Core.Bool.{Bool, true, false, cond, not, ◌&&◌}
use mathlib.Core.List.{List, [], ◌∷◌}
use mathlib.Core.Path.{◌≡◌, refl, ap, sym, ◌∙◌}
use lib.Dec.{eqb, leb, ltb, leb-suc-suc}
use lib.IntN.{ℤ, pos, negsuc, nat_abs, ◌+ℤ◌, ◌-ℤ◌}
use lib.Signed.{lt_z, le_z}
use lib.ListN.{length, get_or-eq_default}
use borrow.Author.Tests.{ltb-false, le-leb, ne_eqb}
use Rattle.integers.specs.Integers.{eq_z}
use Rattle.integers.proofs.Parts.{dif-bal}
use Rattle.integers.proofs.Order.{lt_yes, lt_no, yes_lt, no_lt, eq_z-self}
use Rattle.paper.specs.Lists.{any, all, tally, size}
use Rattle.paper.specs.Formula.{blank, fit, some_blank, sum, lesser, greater, places, sharing, departures, last, input_at, picked_formula, formula}
use Rattle.paper.proofs.Lists.{or-false-left, or-false-right, eqb-self}
use Rattle.paper.proofs.Count.{size-le, size_same, size-add}
use Rattle.paper.proofs.Extreme.{is_blank, Extreme, least, most, none_left}

-- ── blank inputs ──
by-blank : (kind : ℕ) (param : ℤ) (coefs xs : List ℤ) (b : Bool) → any (eqb kind) (2 ∷ 3 ∷ 4 ∷ []) ≡ false → some_blank xs ≡ b
    → formula kind param coefs xs ≡ cond b blank (picked_formula kind param coefs xs)
unfolding formula
by-blank kind param coefs xs b k e =
    let two = or-false-left (eqb kind 2) (any (eqb kind) (3 ∷ 4 ∷ [])) k in
    let rest = or-false-right (eqb kind 2) (any (eqb kind) (3 ∷ 4 ∷ [])) k in
    let three = or-false-left (eqb kind 3) (any (eqb kind) (4 ∷ [])) rest in
    let four = or-false-left (eqb kind 4) false (or-false-right (eqb kind 3) (any (eqb kind) (4 ∷ [])) rest) in
    simp (two, three, four, e)

-- except in kinds 2, 3 and 4, any blank input gives blank
pub blank-law : (kind : ℕ) (param : ℤ) (coefs xs : List ℤ) → any (eqb kind) (2 ∷ 3 ∷ 4 ∷ []) ≡ false → some_blank xs ≡ true → formula kind param coefs xs ≡ blank
blank-law kind param coefs xs k e = by-blank kind param coefs xs true k e

-- ── how many places pass a test ──
one_more : (b : Bool) (n : ℕ) → cond b (suc n) n ≡ cond b 1 0 + n
one_more true n = omega arith
one_more false n = omega arith

size-first : (q : ℕ → Bool) (n : ℕ) → size q (suc n) ≡ cond (q 0) 1 0 + size (λ i. q (suc i)) n
size-first q zero = one_more (q 0) 0
size-first q (suc n) = let h = size-first q n in omega (arith, one_more (q (suc n)) (size q (suc n)), one_more (q (suc n)) (size (λ i. q (suc i)) n))

pub tally-size : (p : ℤ → Bool) (xs : List ℤ) → tally p xs ≡ size (λ i. p (input_at xs i)) (length xs)
tally-size p [] = refl
tally-size p (x ∷ xs) = ap (λ n. cond (p x) 1 0 + n) (tally-size p xs) ∙ sym (size-first (λ i. p (input_at (x ∷ xs) i)) (length xs))

-- at most all
pub tally-le : (p : ℤ → Bool) (xs : List ℤ) → tally p xs ≤ length xs
tally-le p xs = rw (tally-size p xs) (size-le (λ i. p (input_at xs i)) (length xs))

-- j is another place than i and holds the same value
abbrev pub shares_with : List ℤ → ℕ → ℕ → Bool
shares_with xs i j = not (eqb j i) && eq_z (input_at xs j) (input_at xs i)

-- another place also holds the value of place i
abbrev pub shares : List ℤ → ℕ → Bool
shares xs i = ltb 0 (size (shares_with xs i) (length xs))

places-others : (xs : List ℤ) (i : ℕ) → i < length xs → places (input_at xs i) xs ≡ suc (size (shares_with xs i) (length xs))
places-others xs i l =
    tally-size (λ x. eq_z x (input_at xs i)) xs
    ∙ size-add (shares_with xs i) same i (length xs) l (ap (λ b. not b && same i) (eqb-self i)) (eq_z-self (input_at xs i)) (λ j n. ap (λ b. not b && same j) (sym (ne_eqb j i n)))
  where
    same : ℕ → Bool
    same j = eq_z (input_at xs j) (input_at xs i)

sharing-shares : (xs : List ℤ) → sharing xs ≡ size (shares xs) (length xs)
sharing-shares xs =
    tally-size (λ x. leb 2 (places x xs)) xs
    ∙ size_same (λ i. leb 2 (places (input_at xs i) xs)) (shares xs) (length xs)
    (λ i l. ap (leb 2) (places-others xs i l) ∙ leb-suc-suc 1 (size (shares_with xs i) (length xs)))

-- ── the paper's sentences ──
module _ (param : ℤ) (coefs : List ℤ) where
  full : (kind : ℕ) (xs : List ℤ) → any (eqb kind) (2 ∷ 3 ∷ 4 ∷ []) ≡ false → some_blank xs ≡ false → formula kind param coefs xs ≡ picked_formula kind param coefs xs
  full kind xs k e = by-blank kind param coefs xs false k e

  -- 1. the exact sum, judged once, at the end
  pub linear-law : (xs : List ℤ) → some_blank xs ≡ false → formula 1 param coefs xs ≡ fit (param +ℤ sum coefs xs)
  linear-law xs e = full 1 xs refl e

  -- 2. and 3. an input that has a value, and no input that has one is below, or above, it
  pub min-law : (xs : List ℤ) → all is_blank xs ≡ false → Extreme le_z (formula 2 param coefs xs) xs
  unfolding formula
  min-law = least

  pub max-law : (xs : List ℤ) → all is_blank xs ≡ false → Extreme (λ z x. le_z x z) (formula 3 param coefs xs) xs
  unfolding formula
  max-law = most

  -- blank exactly if no input has a value
  pub min-blank : (xs : List ℤ) → is_blank (formula 2 param coefs xs) ≡ all is_blank xs
  unfolding formula
  min-blank = none_left le_z lesser least

  pub max-blank : (xs : List ℤ) → is_blank (formula 3 param coefs xs) ≡ all is_blank xs
  unfolding formula
  max-blank = none_left (λ z x. le_z x z) greater most

  -- 4. the candidate that the index picks, counted from 0; blank if the index is outside, as blank, which is below 0, is
  pub element-law : (index : ℤ) (candidates : List ℤ) → formula 4 param coefs (index ∷ candidates)
      ≡ cond (le_z (pos 0) index && lt_z index (pos (length candidates))) (input_at candidates (nat_abs index)) blank
  unfolding formula
  element-law (pos i) candidates = go (ltb i (length candidates)) refl ∙ ap (λ b. cond (b && ltb i (length candidates)) (input_at candidates i) blank) (sym (le-leb 0 i zero-le))
    where
      go : (b : Bool) → ltb i (length candidates) ≡ b → input_at candidates i ≡ cond b (input_at candidates i) blank
      go true e = refl
      go false e = get_or-eq_default candidates blank (ltb-false i (length candidates) e)
  element-law (negsuc i) candidates = refl

  -- 5. how many places hold a value that another place also holds
  pub shared-law : (xs : List ℤ) → some_blank xs ≡ false → formula 5 param coefs xs ≡ pos (size (shares xs) (length xs))
  shared-law xs e = full 5 xs refl e ∙ ap pos (sharing-shares xs)

  -- 6. how many inputs equal the parameter
  pub count_law : (xs : List ℤ) → some_blank xs ≡ false → formula 6 param coefs xs ≡ pos (size (λ i. eq_z (input_at xs i) param) (length xs))
  count_law xs e = full 6 xs refl e ∙ ap pos (tally-size (λ x. eq_z x param) xs)

  -- 7. a - b if positive, else 0
  pub over-law : (a b : ℤ) → some_blank (a ∷ b ∷ []) ≡ false → formula 7 param coefs (a ∷ b ∷ []) ≡ cond (lt_z (pos 0) (a -ℤ b)) (fit (a -ℤ b)) (pos 0)
  over-law a b e = full 7 (a ∷ b ∷ []) refl e ∙ ap (λ t. cond t (fit (a -ℤ b)) (pos 0)) (go (lt_z b a) refl)
    where
      go : (t : Bool) → lt_z b a ≡ t → t ≡ lt_z (pos 0) (a -ℤ b)
      go true q = sym (yes_lt (pos 0) (a -ℤ b) (omega (arith, lt_yes b a q, dif-bal a b)))
      go false q = sym (no_lt (pos 0) (a -ℤ b) (omega (arith, lt_no b a q, dif-bal a b)))

  -- 8. and 9. of the window that the three inputs are
  pub departures-law : (start end headway : ℤ) → let xs = start ∷ end ∷ headway ∷ [] in some_blank xs ≡ false → formula 8 param coefs xs ≡ departures start end headway
  departures-law start end headway e = full 8 (start ∷ end ∷ headway ∷ []) refl e

  pub last-law : (start end headway : ℤ) → let xs = start ∷ end ∷ headway ∷ [] in some_blank xs ≡ false → formula 9 param coefs xs ≡ last start end headway
  last-law start end headway e = full 9 (start ∷ end ∷ headway ∷ []) refl e

-- LINEAR is exact: a partial sum may leave the range, here by 2 × 2,147,483,647, where the whole sum does not
pub partial-sum-leaves : formula 1 (pos 0) (pos 2 ∷ negsuc 1 ∷ []) (pos 2147483647 ∷ pos 2147483647 ∷ []) ≡ pos 0
unfolding formula
partial-sum-leaves = refl
