-- How many places pass a test, one step along the list, as the loops go. Assumes nothing.
use Prim.Native.Nat.{ℕ, zero, suc, ◌+◌, ◌≤◌, ◌<◌}
use native.Mathlib.Omega.{arith}
use mathlib.Core.Bool.{Bool, true, false, cond, ◌||◌}
use mathlib.Core.List.{List, [], ◌∷◌}
use mathlib.Core.Path.{◌≡◌, refl, ap, sym, ◌∙◌, subst}
use borrow.Author.Tests.{lt-ltb}
use lib.Dec.{ltb}
use lib.IntN.{ℤ, pos}
use lib.ListN.{length, get_or, take, drop, length-take, drop_of_length-le}
use lib.Seq.{take-suc}
use Rattle.integers.specs.Integers.{eq_z}
use Rattle.paper.specs.Lists.{any, tally, size}
use Rattle.paper.specs.Formula.{blank, some_blank}
use Rattle.paper.specs.Calls.{blanks_among}
use Rattle.paper.proofs.Lists.{tally-append}
use Rattle.paper.proofs.Formulas.{tally-le}
use Rattle.paper.proofs.Scan.{next}
use Rattle.formulas.specs.Inputs.{inputs}
use Rattle.formulas.proofs.Reading.{inputs-length}

-- at most all
pub tally-most : (p : ℤ → Bool) (vars : List ℕ) (values : List ℤ) → tally p (inputs vars values) ≤ length vars
tally-most p vars values = rw (inputs-length vars values) at (tally-le p (inputs vars values))

-- n of the places before i do
pub record Passed (p : ℤ → Bool) (xs : List ℤ) (i n : ℕ) : Type 0 where
  pub so_far : n + tally p (drop i xs) ≡ tally p xs

module _ {p : ℤ → Bool} {xs : List ℤ} where
  pub passed_none : Passed p xs 0 0
  passed_none = record { so_far = omega arith }

  pub passed-next : (d : ℤ) {i n k : ℕ} → Passed p xs i n → i < length xs → k ≡ cond (p (get_or xs i d)) 1 0 → Passed p xs (i + 1) (n + k)
  passed-next d {i} {n} {k} s h e =
      let step : tally p (drop i xs) ≡ cond (p (get_or xs i d)) 1 0 + tally p (drop (i + 1) xs) = ap (tally p) (next xs i d h) in
      record { so_far = omega (arith, s.so_far) }

  pub passed-one : (d : ℤ) {i n : ℕ} → Passed p xs i n → i < length xs → p (get_or xs i d) ≡ true → Passed p xs (i + 1) (n + 1)
  passed-one d s h e = passed-next d s h (sym (ap (λ t. cond t 1 0) e))

  pub passed_over : (d : ℤ) {i n : ℕ} → Passed p xs i n → i < length xs → p (get_or xs i d) ≡ false → Passed p xs (i + 1) n
  passed_over d {i} {n} s h e = let same : n + 0 ≡ n = omega arith in subst (Passed p xs (i + 1)) same (passed-next d s h (sym (ap (λ t. cond t 1 0) e)))

  pub passed-all : {i n : ℕ} → Passed p xs i n → length xs ≤ i → n ≡ tally p xs
  passed-all {i} s h = let none : tally p (drop i xs) ≡ 0 = ap (tally p) (drop_of_length-le xs h) in omega (arith, s.so_far)

  pub passed-most : {i n : ℕ} → Passed p xs i n → n ≤ length xs
  passed-most s = omega (arith, s.so_far, tally-le p xs)

-- some place passes exactly if their number is above 0
pub some-step : (b : Bool) (n : ℕ) → ltb 0 (cond b 1 0 + n) ≡ (b || ltb 0 n)
some-step true n = lt-ltb 0 (1 + n) (omega arith)
some-step false n = let same : 0 + n ≡ n = omega arith in ap (ltb 0) same

pub any-tally : (p : ℤ → Bool) (xs : List ℤ) → any p xs ≡ ltb 0 (tally p xs)
any-tally p [] = refl
any-tally p (x ∷ xs) = ap (p x ||◌) (any-tally p xs) ∙ sym (some-step (p x) (tally p xs))

-- the first n of a row, counted by their places
front-tally : (p : ℤ → Bool) (l : List ℤ) (n : ℕ) → n ≤ length l → tally p (take n l) ≡ size (λ i. p (get_or l i (pos 0))) n
front-tally p l zero h = refl
front-tally p l (suc n) h = ap (tally p) (take-suc l n (pos 0) h) ∙ tally-append p (take n l) (get_or l n (pos 0) ∷ []) ∙ go (p (get_or l n (pos 0))) (front-tally p l n (omega arith))
  where
    go : (b : Bool) → tally p (take n l) ≡ size (λ i. p (get_or l i (pos 0))) n
        → tally p (take n l) + (cond b 1 0 + 0) ≡ cond b (suc (size (λ i. p (get_or l i (pos 0))) n)) (size (λ i. p (get_or l i (pos 0))) n)
    go true ih = omega arith
    go false ih = omega arith

-- inputs that were copied to the front of a row: whether one is blank
pub blank-copied : (xs held : List ℤ) (n : ℕ) → length xs ≡ n → take n held ≡ xs → some_blank xs ≡ ltb 0 (blanks_among n (λ v. get_or held v (pos 0)))
blank-copied xs held n long e =
    any-tally (λ x. eq_z x blank) xs ∙ ap (λ l. ltb 0 (tally (λ x. eq_z x blank) l)) (sym e) ∙ ap (ltb 0) (front-tally (λ x. eq_z x blank) held n room)
  where
    room : n ≤ length held
    room = let all = ap (λ (l : List ℤ). length l) e in let cut = length-take n held in omega arith

-- ── at most one more each time ──
pub one-most : (t : Bool) {n : ℕ} → n ≡ cond t 1 0 → n ≤ 1
one-most true e = omega arith
one-most false e = omega arith
