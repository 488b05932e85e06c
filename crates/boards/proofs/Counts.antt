-- How many departures there are: counting them up to 2,001 tells what check 4 asks, since the list is as long as they are many (`list-long`) and
-- DEPARTURES is blank only for more than that. Assumes nothing.
use Prim.Native.Nat.{ℕ, suc, ◌+◌, ◌≤◌, ◌<◌, min}
use native.Mathlib.Nat.{not-suc-le-zero}
use native.Mathlib.Numerals.{add-one}
use native.Mathlib.Omega.{arith}
use mathlib.Core.Bool.{Bool, true, false, cond, not, ◌&&◌, ◌||◌, true≢false}
use mathlib.Core.List.{[], ◌∷◌}
use mathlib.Core.Path.{◌≡◌, refl, ap, sym, ◌∙◌}
use lib.Dec.{leb}
use lib.IntN.{ℤ, pos, negsuc, nat_abs, ◌+ℤ◌, ◌*ℤ◌}
use lib.Signed.{lt_z}
use lib.ListN.{length}
use borrow.Author.Tests.{leb-true, leb-false, le-leb, lt-leb, ltb-true, not-true}
use Rattle.integers.specs.Integers.{eq_z}
use Rattle.paper.specs.Lists.{all_below}
use Rattle.paper.specs.Formula.{blank, fit, trips, departures, strict}
use Rattle.paper.proofs.Lists.{each}
use Rattle.paper.proofs.Those.{joined-grown, joined-le}
use Rattle.paper.proofs.Least.{below_all}
use Rattle.paper.proofs.Buffers.{length-below}
use Rattle.paper.proofs.Windows.{departures-is}
use Rattle.times.specs.Windows.{Board, window_good, start, end, headway, times_of, times_below, list, numbers_good, few_enough}
use Rattle.times.proofs.Listing.{list-long}
use Rattle.boards.specs.Counting.{counted_on}

-- ── DEPARTURES of a good window ──
none-blank : (a b c : Bool) → not a ≡ true → not b ≡ true → not c ≡ true → (a || (b || (c || false))) ≡ false
none-blank a b c p q r = ap (λ x. x || (b || (c || false))) (not-true a p) ∙ ap (λ x. x || (c || false)) (not-true b q) ∙ ap (λ x. x || false) (not-true c r)

-- the engine gives the number of its times, judged against the range
departs : (s e h : ℤ) → window_good s e h ≡ true → strict 8 (pos 0) [] (s ∷ e ∷ h ∷ []) ≡ fit (pos (trips s e h))
departs s e h g =
    let f = each _ g in
    ap (λ x. cond x blank (departures s e h)) (none-blank (eq_z s blank) (eq_z e blank) (eq_z h blank) f.0 f.1.0 f.1.1.0)
    ∙ departures-is s e h f.1.1.1.0

-- what is below 0 is blank, and counts as more than 2,000
pub counted-blank : (count : ℕ) (d : ℤ) → lt_z d (pos 0) ≡ true → 2001 ≡ counted_on count d
counted-blank count (pos k) e = absurd (not-suc-le-zero (ltb-true k 0 e))
counted-blank count (negsuc k) e = refl

pub counted-more : (count : ℕ) (d : ℤ) → lt_z d (pos 0) ≡ false → counted_on count d ≡ min (count + nat_abs d) 2001
counted-more count (pos k) e = refl
counted-more count (negsuc k) e = absurd (true≢false e)

-- one window's counted on
counted_step : (count before k : ℕ) → count ≡ min before 2001 → counted_on count (fit (pos k)) ≡ min (before + k) 2001
counted_step count before k e = go (leb k 2147483647) refl
  where
    go : (b : Bool) → leb k 2147483647 ≡ b → counted_on count (cond b (pos k) blank) ≡ min (before + k) 2001
    go true q = let same : min (count + k) 2001 ≡ min (before + k) 2001 = omega arith in same
    go false q = let l = leb-false k 2147483647 q in let same : 2001 ≡ min (before + k) 2001 = omega arith in same

module _ (b : Board) where
  abbrev trips-of : ℕ → ℕ
  trips-of i = trips (start b i) (end b i) (headway b i)

  below-long : (i : ℕ) → length (times_below b (suc i)) ≡ length (times_below b i) + trips-of i
  below-long i = joined-grown (times_of b) i ∙ ap (length (times_below b i) +◌) (length-below (λ k. start b i +ℤ pos k *ℤ headway b i) (trips-of i))

  pub counted-on : (i count : ℕ) → numbers_good b i ≡ true → count ≡ min (length (times_below b i)) 2001
      → counted_on count (strict 8 (pos 0) [] (start b i ∷ end b i ∷ headway b i ∷ [])) ≡ min (length (times_below b (i + 1))) 2001
  counted-on i count g e =
      ap (counted_on count) (departs (start b i) (end b i) (headway b i) g) ∙ counted_step count (length (times_below b i)) (trips-of i) e
      ∙ ap (λ k. min k 2001) (sym (below-long i)) ∙ ap (λ (j : ℕ). min (length (times_below b j)) 2001) (sym (add-one i))

  -- a window has no more than all of them
  trips-most : (w i : ℕ) → i < w → trips-of i ≤ length (times_below b w)
  trips-most w i l = let k = below-long i in let m = joined-le (times_of b) (suc i) w l in omega arith

  -- check 4 by the length alone
  few-by-length : ((i : ℕ) → i < b.windows → numbers_good b i ≡ true) → few_enough b ≡ leb (length (list b)) 2000
  few-by-length good = go (leb (length (list b)) 2000) refl
    where
      some : (i : ℕ) → i < b.windows → length (list b) ≤ 2000 → not (eq_z (departures (start b i) (end b i) (headway b i)) blank) ≡ true
      some i l few =
          let f = each _ (good i l) in let m = trips-most b.windows i l in let k = list-long b in
          ap (λ z. not (eq_z z blank)) (departures-is (start b i) (end b i) (headway b i) f.1.1.1.0 ∙ ap (λ t. cond t (pos (trips-of i)) blank) (le-leb (trips-of i) 2147483647 (omega arith)))

      go : (t : Bool) → leb (length (list b)) 2000 ≡ t → (all_below (λ i. not (eq_z (departures (start b i) (end b i) (headway b i)) blank)) b.windows && t) ≡ t
      go true q = ap (◌&& true) (below_all _ b.windows (λ i l. some i l (leb-true _ _ q)))
      go false q = off (all_below (λ i. not (eq_z (departures (start b i) (end b i) (headway b i)) blank)) b.windows)
        where
          off : (a : Bool) → (a && false) ≡ false
          off true = refl
          off false = refl

  -- counted up to 2,001: check 4 is passed exactly if the count is not more than 2,000, and then it is the list's length
  module _ (good : (i : ℕ) → i < b.windows → numbers_good b i ≡ true) (count : ℕ) (e : count ≡ min (length (times_below b b.windows)) 2001) where
    pub too_many : 2000 < count → few_enough b ≡ false
    too_many l = few-by-length good ∙ lt-leb (length (list b)) 2000 (omega (arith, list-long b))

    pub not-many : count ≤ 2000 → few_enough b ≡ true
    not-many l = few-by-length good ∙ le-leb (length (list b)) 2000 (omega (arith, list-long b))

    pub all-counted : count ≤ 2000 → count ≡ length (list b)
    all-counted l = omega (arith, list-long b)
