-- What a field says that was written is what it was written from: each digit adds its own place's part of the number. Assumes nothing.
use Prim.Native.Nat.{ℕ, zero, suc, ◌+◌, ◌-◌, ◌*◌, ◌/◌, ◌%◌, ◌^◌, ◌≤◌, ◌<◌}
use native.Mathlib.Omega.{arith}
use mathlib.Core.Bool.{Bool, true, false, cond, ◌&&◌, ◌||◌}
use mathlib.Core.List.{List, [], ◌∷◌, ◌++◌, append_assoc}
use mathlib.Core.Path.{◌≡◌, refl, ap, ap₂, ◌∙◌}
use lib.Dec.{leb, ltb}
use lib.IntN.{pos}
use lib.ListN.{length, take, drop, length-append}
use lib.Seq.{take-append_seam, drop-append-add, get_or-append_seam, get_or-append-add}
use borrow.Author.Tests.{ltb-true, lt-ltb, leb-true, le-leb, ne_eqb}
use Rattle.paper.specs.Lists.{all, every, nat}
use Rattle.paper.proofs.Lists.{and_left, and_right, all_yes}
use Rattle.paper.proofs.Least.{between_in}
use Rattle.paper.proofs.Scan.{any_append}
use Rattle.frequencies.specs.Values.{is_digit, is_colon, number_from, number, as_value, sixtieth, time, headway, exact}
use Rattle.frequencies.specs.Writing.{digits_of, decimal, two_digits, hours_bytes, time_bytes, must_quote}
use Rattle.frequencies.proofs.Quoted.{special}

-- ── numbers ──
number_behind : (front : ℕ) (xs : List ℕ) (d : ℕ) → number_from front (xs ++ (d ∷ [])) ≡ 10 * number_from front xs + (d - 48)
number_behind front [] d = refl
number_behind front (x ∷ xs) d = number_behind (10 * front + (x - 48)) xs d

digit-is : (d : ℕ) → d < 10 → is_digit (48 + d) ≡ true
digit-is d l = between_in 48 (48 + d) 57 (omega arith) (omega arith)

all_append : {A : Type 0} (p : A → Bool) (xs ys : List A) → all p xs ≡ true → all p ys ≡ true → all p (xs ++ ys) ≡ true
all_append p [] ys e f = f
all_append p (x ∷ xs) ys e f = ap₂ ◌&&◌ (and_left (p x) (all p xs) e) (all_append p xs ys (and_right (p x) (all p xs) e) f)

-- digits say n: only digits, at least one
pub record Says (n : ℕ) (bs : List ℕ) : Type 0 where
  pub digits : all is_digit bs ≡ true
  pub says : number bs ≡ n
  pub some : 0 < length bs

pub digits-say : (most n : ℕ) → n < 10 ^ suc most → Says n (digits_of (suc most) n)
digits-say zero n l = rw (lt-ltb n 10 (omega arith)) record { digits = ap (◌&& true) (digit-is n (omega arith)); says = omega arith; some = omega arith }
digits-say (suc most) n l = go (ltb n 10) refl (digits-say most (n / 10) (omega arith))
  where
    go : (b : Bool) → ltb n 10 ≡ b → Says (n / 10) (digits_of (suc most) (n / 10))
        → Says n (cond b ((48 + n) ∷ []) (digits_of (suc most) (n / 10) ++ ((48 + n % 10) ∷ [])))
    go true e s = let low = ltb-true n 10 e in record { digits = ap (◌&& true) (digit-is n low); says = omega arith; some = omega arith }
    go false e s = record {
      digits = all_append is_digit (digits_of (suc most) (n / 10)) ((48 + n % 10) ∷ []) s.digits (ap (◌&& true) (digit-is (n % 10) (omega arith)));
      says = number_behind 0 (digits_of (suc most) (n / 10)) (48 + n % 10) ∙ (let h = s.says in omega arith);
      some = let h = s.some in omega (arith, length-append (digits_of (suc most) (n / 10)) ((48 + n % 10) ∷ []));
    }

-- two digits, the first of them at most 5 below 60
two-say : (n : ℕ) → n < 100 → Says n (two_digits n)
two-say n l = record {
  digits = ap₂ (λ a b. a && (b && true)) (digit-is (n / 10) (omega arith)) (digit-is (n % 10) (omega arith));
  says = omega arith;
  some = omega arith;
}

pub hours-say : (n : ℕ) → n < 10 ^ 10 → Says n (hours_bytes n)
hours-say n l = go (ltb n 100) refl
  where
    go : (b : Bool) → ltb n 100 ≡ b → Says n (cond b (two_digits n) (decimal n))
    go true e = two-say n (ltb-true n 100 e)
    go false e = digits-say 9 n l

-- ── times ──
-- what stands behind the hours
tail : (m s : ℕ) → List ℕ
tail m s = 58 ∷ (48 + m / 10) ∷ (48 + m % 10) ∷ 58 ∷ (48 + s / 10) ∷ (48 + s % 10) ∷ []

module _ (hs : List ℕ) (h m s : ℕ) (said : Says h hs) (lm : m < 60) (ls : s < 60) where
  size : length (hs ++ tail m s) - 6 ≡ length hs
  unfolding tail
  size = omega (arith, length-append hs (tail m s))

  sixty : (n k : ℕ) → n < 60 → nat (hs ++ tail m s) k ≡ 48 + n / 10 → nat (hs ++ tail m s) (suc k) ≡ 48 + n % 10 → sixtieth (hs ++ tail m s) k ≡ true
  sixty n k l p q = rw (p, q) (ap₂ ◌&&◌ (between_in 48 (48 + n / 10) 53 (omega arith) (omega arith)) (digit-is (n % 10) (omega arith)))

  at : (j : ℕ) → nat (hs ++ tail m s) (length hs + j) ≡ nat (tail m s) j
  at j = get_or-append-add hs (tail m s) j 0

  abbrev tests : ℕ → List Bool
  tests k =
      ltb 6 (length (hs ++ tail m s)) ∷ all is_digit (take k (hs ++ tail m s)) ∷ is_colon (nat (hs ++ tail m s) k) ∷ sixtieth (hs ++ tail m s) (k + 1)
      ∷ is_colon (nat (hs ++ tail m s) (k + 3)) ∷ sixtieth (hs ++ tail m s) (k + 4) ∷ []

  passed : every (tests (length hs)) ≡ true
  unfolding tail
  passed = all_yes (tests (length hs)) (
    lt-ltb 6 (length (hs ++ tail m s)) (omega (arith, length-append hs (tail m s), said.some)),
    (
      ap (all is_digit) (take-append_seam hs (tail m s)) ∙ said.digits,
      (
        ap is_colon (get_or-append_seam hs 58 _ 0),
        (
          sixty m (length hs + 1) lm (at 1) (ap (nat (hs ++ tail m s)) (let e : suc (length hs + 1) ≡ length hs + 2 = omega arith in e) ∙ at 2),
          (
            ap is_colon (at 3),
            (
              sixty s (length hs + 4) ls (at 4) (ap (nat (hs ++ tail m s)) (let e : suc (length hs + 4) ≡ length hs + 5 = omega arith in e) ∙ at 5),
              tt,
            ),
          ),
        ),
      ),
    ),
  )

  -- two digits behind the hours
  pair : (n j : ℕ) (rest : List ℕ) → drop j (tail m s) ≡ (48 + n / 10) ∷ (48 + n % 10) ∷ rest → number (take 2 (drop (length hs + j) (hs ++ tail m s))) ≡ n
  pair n j rest e =
      ap (λ l. number (take 2 l)) (drop-append-add hs (tail m s) j ∙ e)
      ∙ (let z : 10 * (10 * 0 + (48 + n / 10 - 48)) + (48 + n % 10 - 48) ≡ n = omega arith in z)

  time-says : time (hs ++ tail m s) ≡ as_value true (3600 * h + 60 * m + s)
  unfolding time tail
  time-says =
      ap (λ k. as_value (every (tests k))
      (3600 * number (take k (hs ++ tail m s)) + 60 * number (take 2 (drop (k + 1) (hs ++ tail m s))) + number (take 2 (drop (k + 4) (hs ++ tail m s))))) size
      ∙ ap₂ as_value passed
      (ap₂ ◌+◌ (ap₂ (λ a b. 3600 * a + 60 * b) (ap number (take-append_seam hs (tail m s)) ∙ said.says) (pair m 1 _ refl)) (pair s 4 [] refl))

as-value : (n : ℕ) → n ≤ 2147483647 → as_value true n ≡ pos n
as-value n l = rw (le-leb n 2147483647 l)

abbrev hours : ℕ → List ℕ
hours t = hours_bytes (t / 3600)

time-bytes : (t : ℕ) → time_bytes t ≡ hours t ++ tail (t / 60 % 60) (t % 60)
unfolding tail
time-bytes t = simp append_assoc

pub time-back : (t : ℕ) → t ≤ 2147483647 → time (time_bytes t) ≡ pos t
time-back t l =
    ap time (time-bytes t)
    ∙ time-says (hours_bytes (t / 3600)) (t / 3600) (t / 60 % 60) (t % 60) (hours-say (t / 3600) (omega arith)) (omega arith) (omega arith)
    ∙ ap (as_value true) (let e : 3600 * (t / 3600) + 60 * (t / 60 % 60) + t % 60 ≡ t = omega arith in e) ∙ as-value t l

-- ── headways and exact_times ──
pub headway-back : (h : ℕ) → 0 < h → h ≤ 2147483647 → headway (decimal h) ≡ pos h
unfolding headway
headway-back h p l =
    let s = digits-say 9 h (omega arith) in
    ap₂ as_value (ap₂ ◌&&◌ s.digits (ap (ltb 0) s.says ∙ lt-ltb 0 h p)) s.says ∙ as-value h l

pub exact-back : (e : ℕ) → e ≤ 1 → exact ((48 + e) ∷ []) ≡ e
unfolding exact
exact-back zero l = refl
exact-back (suc zero) l = refl
exact-back (suc (suc e)) l = absurd (let z : 2 ≤ 1 = omega arith in omega arith)

-- ── none of their bytes has to stand in quotes ──
digit-plain : (b : ℕ) → is_digit b ≡ true → special b ≡ false
digit-plain b e =
    let low = leb-true 48 b (and_left (leb 48 b) (leb b 57) e) in
    rw (ne_eqb 44 b (λ q. omega arith), ne_eqb 34 b (λ q. omega arith), ne_eqb 10 b (λ q. omega arith), ne_eqb 13 b (λ q. omega arith))

digits-plain : (bs : List ℕ) → all is_digit bs ≡ true → must_quote bs ≡ false
digits-plain [] e = refl
digits-plain (b ∷ bs) e =
    ap₂ ◌||◌ (digit-plain b (and_left (is_digit b) (all is_digit bs) e)) (digits-plain bs (and_right (is_digit b) (all is_digit bs) e))

plain-both : (xs ys : List ℕ) → must_quote xs ≡ false → must_quote ys ≡ false → must_quote (xs ++ ys) ≡ false
plain-both xs ys e f = any_append special xs ys ∙ ap₂ ◌||◌ e f

pub decimal-plain : (n : ℕ) → n < 10 ^ 10 → must_quote (decimal n) ≡ false
decimal-plain n l = digits-plain (decimal n) (digits-say 9 n l).digits

two-plain : (n : ℕ) (rest : List ℕ) → n < 100 → must_quote rest ≡ false → must_quote (two_digits n ++ rest) ≡ false
two-plain n rest h e = plain-both (two_digits n) rest (digits-plain (two_digits n) (two-say n h).digits) e

tail-plain : (m s : ℕ) → m < 60 → s < 60 → must_quote (tail m s) ≡ false
unfolding tail
tail-plain m s h k = two-plain m (58 ∷ two_digits s) (omega arith) (two-plain s [] (omega arith) refl)

pub time-plain : (t : ℕ) → t ≤ 2147483647 → must_quote (time_bytes t) ≡ false
time-plain t l =
    let front = digits-plain (hours t) (hours-say (t / 3600) (omega arith)).digits in
    ap must_quote (time-bytes t) ∙ plain-both (hours t) (tail (t / 60 % 60) (t % 60)) front (tail-plain (t / 60 % 60) (t % 60) (omega arith) (omega arith))

pub exact-plain : (e : ℕ) → e ≤ 1 → must_quote ((48 + e) ∷ []) ≡ false
exact-plain e l = digits-plain ((48 + e) ∷ []) (ap (◌&& true) (digit-is e (omega arith)))
