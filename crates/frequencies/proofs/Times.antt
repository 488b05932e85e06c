-- A field's bytes at their places: what a time, exact_times and a name are said by. Assumes nothing.
use Prim.Native.Nat.{ℕ, suc, ◌+◌, ◌-◌, ◌*◌, ◌≤◌, ◌<◌}
use native.Mathlib.Omega.{arith}
use mathlib.Core.Bool.{Bool, ◌&&◌}
use mathlib.Core.List.{List, [], ◌∷◌}
use mathlib.Core.Path.{◌≡◌, refl, ap, ap₂, sym, ◌∙◌}
use lib.Dec.{ltb}
use lib.IntN.{ℤ}
use lib.ListN.{length, take, drop}
use lib.Seq.{drop-cons}
use borrow.Author.Tests.{lt-ltb, le-ltb}
use Rattle.paper.specs.Lists.{all, every, between, nat}
use Rattle.paper.specs.Formula.{blank}
use Rattle.frequencies.specs.Values.{is_digit, is_colon, number, sixtieth, as_value, time, exact}
use Rattle.frequencies.specs.Told.{said}
use Rattle.frequencies.proofs.Told.{told, told-said, blank-big, and-true, value-told, time-tests}
use Rattle.std.specs.Prelude.{Option, None, unwrap_or}

-- ── a time ──
pub time-short : (bs : List ℕ) → length bs < 7 → blank ≡ time bs
unfolding time every
time-short bs h = rw (le-ltb 6 (length bs) (omega arith))

-- two bytes
pair : (bs : List ℕ) (j : ℕ) → suc j < length bs → take 2 (drop j bs) ≡ nat bs j ∷ nat bs (suc j) ∷ []
pair bs j h = ap (take 2) (drop-cons bs j 0 (omega arith)) ∙ ap (λ l. nat bs j ∷ take 1 l) (drop-cons bs (suc j) 0 h)

-- hours of two digits
pub hours-two : (bs : List ℕ) (k : ℕ) → k ≡ 2 → k ≤ length bs
    → said (between 48 (nat bs 0) 57 && is_digit (nat bs 1)) (number (nat bs 0 ∷ nat bs 1 ∷ [])) ≡ said (all is_digit (take k bs)) (number (take k bs))
hours-two bs k e h =
    ap (λ g. said (is_digit (nat bs 0) && g) (number (nat bs 0 ∷ nat bs 1 ∷ []))) (sym (and-true (is_digit (nat bs 1))))
    ∙ ap (λ l. said (all is_digit l) (number l)) (sym (pair bs 0 (omega arith)) ∙ ap (λ n. take n bs) (sym e))

module _ (bs : List ℕ) (k : ℕ) where
  -- two digits by the places at which they stand
  abbrev pub sixtieth_at : ℕ → ℕ → ℕ
  sixtieth_at i j = let a = nat bs (k + i) in let b = nat bs (k + j) in told (between 48 a 53 && is_digit b) (number (a ∷ b ∷ []))

  sixtieth-at : (i j : ℕ) → k + j ≡ suc (k + i) → k + j < length bs → sixtieth_at i j ≡ told (sixtieth bs (k + i)) (number (take 2 (drop (k + i) bs)))
  sixtieth-at i j e h = rw (e, pair bs (k + i) (omega arith))

  -- the time, if its hours end at k
  abbrev time_by : ℤ
  time_by =
      as_value (
      every (
      ltb 6 (length bs) ∷ all is_digit (take k bs) ∷ is_colon (nat bs k) ∷ sixtieth bs (k + 1) ∷ is_colon (nat bs (k + 3)) ∷ sixtieth bs (k + 4) ∷ []))
      (3600 * number (take k bs) + 60 * number (take 2 (drop (k + 1) bs)) + number (take 2 (drop (k + 4) bs)))

  abbrev pq : Bool
  pq = is_colon (nat bs k) && is_colon (nat bs (k + 3))

  abbrev A : Bool
  A = all is_digit (take k bs)

  abbrev B : Bool
  B = sixtieth bs (k + 1)

  abbrev C : Bool
  C = sixtieth bs (k + 4)

  abbrev H : ℕ
  H = number (take k bs)

  abbrev M : ℕ
  M = number (take 2 (drop (k + 1) bs))

  abbrev S : ℕ
  S = number (take 2 (drop (k + 4) bs))

  time-by : 6 < length bs → k ≡ length bs - 6
      → as_value (is_colon (nat bs k) && is_colon (nat bs (k + 3)))
      (3600 * told (all is_digit (take k bs)) (number (take k bs)) + 60 * sixtieth_at 1 2 + sixtieth_at 4 5) ≡ time_by
  time-by h e =
      ap₂ (λ m s. as_value pq (3600 * told A H + 60 * m + s)) (sixtieth-at 1 2 (omega arith) (omega arith)) (sixtieth-at 4 5 (omega arith) (omega arith))
      ∙ value-told (λ x. 3600 * x + 60 * told B M + told C S) (λ x. omega arith) pq A H
      ∙ value-told (λ x. 3600 * H + 60 * x + told C S) (λ x. omega arith) (pq && A) B M
      ∙ value-told (λ x. 3600 * H + 60 * M + x) (λ x. omega arith) ((pq && A) && B) C S
      ∙ ap (λ g. as_value g (3600 * H + 60 * M + S)) (time-tests A B C (is_colon (nat bs k)) (is_colon (nat bs (k + 3)))
      ∙ ap (λ t. every (t ∷ A ∷ is_colon (nat bs k) ∷ B ∷ is_colon (nat bs (k + 3)) ∷ C ∷ [])) (sym (lt-ltb 6 (length bs) h)))

pub time-long : (bs : List ℕ) (k : ℕ) → 6 < length bs → k ≡ length bs - 6
    → as_value (is_colon (nat bs k) && is_colon (nat bs (k + 3)))
    (3600 * told (all is_digit (take k bs)) (number (take k bs)) + 60 * sixtieth_at bs k 1 2 + sixtieth_at bs k 4 5) ≡ time bs
unfolding time
time-long bs k h e = time-by bs k h e ∙ ap (time_by bs) e

-- by what was said of the three; where one is none it is blank
module _ (bs : List ℕ) (k : ℕ) (l : 6 < length bs) (e : k ≡ length bs - 6) (h m s : Option ℕ)
    (p : h ≡ said (all is_digit (take k bs)) (number (take k bs)))
    (q : m ≡ said (between 48 (nat bs (k + 1)) 53 && is_digit (nat bs (k + 2))) (number (nat bs (k + 1) ∷ nat bs (k + 2) ∷ [])))
    (r : s ≡ said (between 48 (nat bs (k + 4)) 53 && is_digit (nat bs (k + 5))) (number (nat bs (k + 4) ∷ nat bs (k + 5) ∷ []))) where
  abbrev parted : Bool
  parted = is_colon (nat bs k) && is_colon (nat bs (k + 3))

  abbrev or_big : Option ℕ → ℕ
  or_big o = unwrap_or o 2147483648

  pub time-said : time bs ≡ as_value parted (3600 * or_big h + 60 * or_big m + or_big s)
  time-said =
      sym
      (ap (as_value parted)
      (ap₂ ◌+◌ (ap₂ (λ a b. 3600 * a + 60 * b) (told-said (all is_digit (take k bs)) (number (take k bs)) h p)
      (told-said (between 48 (nat bs (k + 1)) 53 && is_digit (nat bs (k + 2))) (number (nat bs (k + 1) ∷ nat bs (k + 2) ∷ [])) m q))
      (told-said (between 48 (nat bs (k + 4)) 53 && is_digit (nat bs (k + 5))) (number (nat bs (k + 4) ∷ nat bs (k + 5) ∷ [])) s r))
      ∙ time-long bs k l e)

  pub no-hours : h ≡ None → time bs ≡ blank
  no-hours n =
      time-said ∙ ap (λ o. as_value parted (3600 * or_big o + 60 * or_big m + or_big s)) n
      ∙ blank-big parted (3600 * 2147483648 + 60 * or_big m + or_big s) (omega arith)

  pub no-minutes : m ≡ None → time bs ≡ blank
  no-minutes n =
      time-said ∙ ap (λ o. as_value parted (3600 * or_big h + 60 * or_big o + or_big s)) n
      ∙ blank-big parted (3600 * or_big h + 60 * 2147483648 + or_big s) (omega arith)

  pub no-seconds : s ≡ None → time bs ≡ blank
  no-seconds n =
      time-said ∙ ap (λ o. as_value parted (3600 * or_big h + 60 * or_big m + or_big o)) n
      ∙ blank-big parted (3600 * or_big h + 60 * or_big m + 2147483648) (omega arith)

-- ── exact_times ──
pub exact_none : (bs : List ℕ) → length bs ≡ 0 → 0 ≡ exact bs
unfolding exact
exact_none [] h = refl
exact_none (b ∷ bs) h = absurd (omega arith)

pub exact-many : (bs : List ℕ) → 1 < length bs → 2 ≡ exact bs
unfolding exact
exact-many [] h = absurd (omega arith)
exact-many (b ∷ []) h = absurd (omega arith)
exact-many (b ∷ c ∷ bs) h = refl
