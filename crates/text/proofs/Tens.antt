-- The fewest digits that hold a number are as many as `digit_count` says. Assumes nothing.
use Prim.Native.Nat.{ℕ, zero, suc, ◌-◌, ◌/◌, ◌^◌, ◌≤◌, ◌<◌}
use native.Mathlib.Numerals.{unary_clauses}
use native.Mathlib.Omega.{arith}
use native.Mathlib.Nat.{not-suc-le-zero, pow-le-pow_right}
use mathlib.Core.Bool.{Bool, true, false, cond}
use mathlib.Core.List.{List, [], ◌∷◌, ◌++◌}
use mathlib.Core.Path.{◌≡◌, refl, ap, sym, subst}
use borrow.Author.Tests.{lt-ltb, le-ltb, leb-true, leb-false}
use lib.Dec.{leb}
use lib.IntN.{ℤ, nat_abs}
use Rattle.io.specs.Digits.{IsDigitCount, last_digits}
use Rattle.integers.specs.Integers.{eq_z}
use Rattle.paper.specs.Formula.{blank}
use Rattle.text.specs.Buffer.{Put, sign}
use Rattle.text.specs.Lines.{digit_count, decimal, value, value_or_reason}

-- 10 ^ k is 10 at the least, but for k = 0
ten-up : (k : ℕ) → 10 ≤ 10 ^ suc k
ten-up zero = omega arith
ten-up (suc k) = let h = ten-up k in omega arith

fewest-places : (most n k : ℕ) → IsDigitCount 10 1 n k → k ≤ most → k ≡ digit_count most n
fewest-places zero n k f h = let l = f.0 in absurd (omega arith)
fewest-places (suc most) n zero f h = absurd (not-suc-le-zero f.0)
fewest-places (suc most) n (suc zero) f h = let l : n < 10 ^ 1 = f.1 in rw (lt-ltb n 10 (omega arith))
fewest-places (suc most) n (suc (suc j)) f h =
    let low : 10 ^ suc j ≤ n = (let h = simp unary_clauses at (f.2 (omega arith)) in omega (arith, h)) in
    let high : n < 10 ^ suc (suc j) = f.1 in
    let ten = ten-up j in
    rw (le-ltb n 10 (omega arith))
    (ap suc (fewest-places most (n / 10) (suc j) (omega arith, omega arith, λ l. (let z : suc j - 1 ≡ j = omega arith in rw z (omega arith))) (omega arith)))

-- a number of 64 bits has 20 at the most
at_most : (n k : ℕ) → IsDigitCount 10 1 n k → n < 2 ^ 64 → k ≤ 20
at_most n k f h = go (leb k 20) refl
  where
    go : (t : Bool) → leb k 20 ≡ t → k ≤ 20
    go true e = leb-true k 20 e
    go false e =
        let l : 20 < k = leb-false k 20 e in
        let up : 10 ^ 20 ≤ 10 ^ (k - 1) = pow-le-pow_right {n = 10} (omega arith) {i = 20} {j = k - 1} (omega arith) in
        let low : 10 ^ (k - 1) ≤ n = f.2 (omega arith) in
        absurd (omega arith)

-- the digits that are put
pub decimal-is : (n k : ℕ) → IsDigitCount 10 1 n k → n < 2 ^ 64 → last_digits 10 k n ≡ decimal n
unfolding decimal
decimal-is n k f h = ap (λ z. last_digits 10 z n) (fewest-places 20 n k f (at_most n k f h))

-- ── a text of two, by a test ──
module _ {l after : List ℕ} {at next : ℕ} (xs ys : List ℕ) {t : Bool} where
  pub put_first : t ≡ true → Put xs l at after next → Put (cond t xs ys) l at after next
  put_first e p = subst (λ b. Put (cond b xs ys) l at after next) (sym e) p

  pub put_other : t ≡ false → Put ys l at after next → Put (cond t xs ys) l at after next
  put_other e p = subst (λ b. Put (cond b xs ys) l at after next) (sym e) p

-- a value, by the test whether it is blank
module _ (z : ℤ) {l after : List ℕ} {at next : ℕ} where
  pub put-blank : eq_z z blank ≡ true → Put (45 ∷ []) l at after next → Put (value z) l at after next
  put-blank = put_first (45 ∷ []) (sign z ++ decimal (nat_abs z))

  pub put-number : eq_z z blank ≡ false → Put (sign z ++ decimal (nat_abs z)) l at after next → Put (value z) l at after next
  put-number = put_other (45 ∷ []) (sign z ++ decimal (nat_abs z))

  module _ (reason : ℕ) where
    pub put-reason : eq_z z blank ≡ true → Put ((98 ∷ 108 ∷ 97 ∷ 110 ∷ 107 ∷ 58 ∷ []) ++ decimal reason) l at after next → Put (value_or_reason z reason) l at after next
    put-reason = put_first ((98 ∷ 108 ∷ 97 ∷ 110 ∷ 107 ∷ 58 ∷ []) ++ decimal reason) (value z)

    pub put-no-reason : eq_z z blank ≡ false → Put (value z) l at after next → Put (value_or_reason z reason) l at after next
    put-no-reason = put_other ((98 ∷ 108 ∷ 97 ∷ 110 ∷ 107 ∷ 58 ∷ []) ++ decimal reason) (value z)
