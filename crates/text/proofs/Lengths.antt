-- How long the lines are: no number has more digits than it needs, so a list of 4,096 lines has at most 90,112 bytes. Assumes nothing.
use Prim.Native.Nat.{ℕ, zero, suc, ◌*◌, ◌/◌, ◌^◌, ◌≤◌, ◌<◌, min, zero-le}
use native.Mathlib.Omega.{arith}
use mathlib.Core.Bool.{Bool, true, false, cond}
use mathlib.Core.List.{List, [], ◌∷◌, ◌++◌}
use mathlib.Core.Path.{◌≡◌, refl, ◌∙◌}
use borrow.Author.Tests.{lt-ltb}
use lib.Dec.{ltb}
use lib.IntN.{ℤ, pos, nat_abs}
use lib.ListN.{length, get_or, length-append}
use lib.Signed.{lt_z}
use Rattle.io.specs.Digits.{last_digits}
use Rattle.integers.specs.Integers.{eq_z}
use Rattle.paper.specs.Lists.{nat, joined}
use Rattle.paper.specs.Formula.{blank}
use Rattle.text.specs.Lines.{digit_count, decimal, value, value_or_reason, line, lines, refusal}

-- ── numbers ──
digits-length : (b k n : ℕ) → length (last_digits b k n) ≡ k
digits-length b zero n = refl
digits-length b (suc k) n = let h = digits-length b k (n / b) in length-append (last_digits b k (n / b)) _ ∙ omega arith

places-most : (most n : ℕ) → digit_count most n ≤ most
places-most zero n = zero-le
places-most (suc most) n = go (ltb n 10) (places-most most (n / 10))
  where
    go : (b : Bool) → digit_count most (n / 10) ≤ most → cond b 1 (suc (digit_count most (n / 10))) ≤ suc most
    go true h = omega arith
    go false h = omega arith

-- a number below 10 ^ (k + 1) has at most k + 1 digits
places-few : (most k n : ℕ) → n < 10 ^ suc k → digit_count most n ≤ suc k
places-few zero k n h = zero-le
places-few (suc most) zero n h = rw (lt-ltb n 10 (omega arith)) (omega arith)
places-few (suc most) (suc k) n h = go (ltb n 10) (places-few most k (n / 10) (omega arith))
  where
    go : (b : Bool) → digit_count most (n / 10) ≤ suc k → cond b 1 (suc (digit_count most (n / 10))) ≤ suc (suc k)
    go true l = omega arith
    go false l = omega arith

decimal-most : (n : ℕ) → length (decimal n) ≤ 20
unfolding decimal
decimal-most n = rw (digits-length 10 (digit_count 20 n) n) (places-most 20 n)

decimal-few : (k n : ℕ) → n < 10 ^ suc k → length (decimal n) ≤ suc k
unfolding decimal
decimal-few k n h = rw (digits-length 10 (digit_count 20 n) n) (places-few 20 k n h)

-- a sign, or none, and at most ten digits
value-length : (z : ℤ) → nat_abs z ≤ 2147483648 → length (value z) ≤ 11
value-length z h = go (eq_z z blank) (lt_z z (pos 0)) (decimal-few 9 (nat_abs z) (omega arith))
  where
    go : (b s : Bool) → length (decimal (nat_abs z)) ≤ 10 → length (cond b (45 ∷ []) (cond s (45 ∷ []) [] ++ decimal (nat_abs z))) ≤ 11
    go true s l = omega arith
    go false true l = omega arith
    go false false l = omega arith

-- with a reason no more
field-length : (b : Bool) (z : ℤ) (reason : ℕ) → nat_abs z ≤ 2147483648 → reason < 1000 → length (cond b (value_or_reason z reason) (value z)) ≤ 11
field-length true z reason h l = go (eq_z z blank) (decimal-few 2 reason (omega arith)) (value-length z h)
  where
    go : (b : Bool) → length (decimal reason) ≤ 3 → length (value z) ≤ 11 → length (cond b ((98 ∷ 108 ∷ 97 ∷ 110 ∷ 107 ∷ 58 ∷ []) ++ decimal reason) (value z)) ≤ 11
    go true k n = omega arith
    go false k n = n
field-length false z reason h l = value-length z h

-- ── lines ──
line-length : (b : Bool) (v number : ℕ) (z : ℤ) (reason : ℕ) → v < 10000 → number < 10000 → nat_abs z ≤ 2147483648 → reason < 1000 → length (line b v number z reason) ≤ 22
line-length b v number z reason hv hn hz hr =
    let c = decimal-few 3 v (omega arith) in
    let d = decimal-few 3 number (omega arith) in
    let e = field-length b z reason hz hr in
    simp length-append (omega arith)

pub refusal-length : (number place : ℕ) → length (refusal number place) ≤ 50
unfolding refusal
refusal-length number place =
    let a = decimal-most number in
    let b = decimal-most place in
    simp length-append (omega arith)

joined_length : (f : ℕ → List ℕ) (w n : ℕ) → ((i : ℕ) → i < n → length (f i) ≤ w) → length (joined f n) ≤ w * n
joined_length f w zero h = zero-le
joined_length f w (suc n) h =
    let a = joined_length f w n (λ i l. h i (omega arith)) in
    let b = h n (omega arith) in
    let e = length-append (joined f n) (f n) in
    omega arith

-- the list: at most 4,096 lines
pub lines-length : (b : Bool) (n : ℕ) (numbers : List ℕ) (values : List ℤ) (row : List ℕ) → n ≤ 4096 → ((v : ℕ) → v < n → nat numbers v < 10000)
    → ((v : ℕ) → v < n → nat_abs (get_or values v (pos 0)) ≤ 2147483648) → ((v : ℕ) → v < n → nat row v < 1000) → length (lines b n numbers values row) ≤ 90112
unfolding lines
lines-length b n numbers values row few low near known =
    let count = min n (min (length numbers) (length values)) in
    let short : (v : ℕ) → v < count → length (line b v (nat numbers v) (get_or values v (pos 0)) (nat row v)) ≤ 22 =
    (λ v h. line-length b v (nat numbers v) (get_or values v (pos 0)) (nat row v) (omega arith) (low v (omega arith)) (near v (omega arith)) (known v (omega arith))) in
    let l = joined_length (λ v. line b v (nat numbers v) (get_or values v (pos 0)) (nat row v)) 22 count short in
    omega arith
