-- Integers and their bits: what the machine's tests of the bits say of the integers, and how a signed number is carried through its bits.
-- Each law over the width. Assumes nothing.
use mathlib.Core.Path.{◌≡◌, refl, sym, ap, ◌∙◌, subst}
use mathlib.Core.Bool.{Bool, true, false, false≢true, true≢false}
use Prim.Native.Nat.{ℕ, suc, ◌-◌, ◌^◌, ◌≤◌, ◌<◌}
use native.Mathlib.Omega.{arith}
use lib.Dec.{T, leb, eqb}
use lib.IntN.{ℤ, pos, negsuc, sub_ℕ, ◌+ℤ◌, ◌-ℤ◌, nat_abs}
use lib.Signed.{lt_z, le_z, non_neg, mag}
use borrow.Author.Rules.{sfits_of}
use borrow.Author.Tests.{ltb-true, le-ltb, eq-eqb, ne_eqb}
use mir.Syntax.{Width, w64}
use mir.Val.{Fits, SFits, hbits, bits, to_z, of_z}
use mir.Facts.{to_z-of_z, to_z_pos, Fits-of_z, sfits_widen}
use mir.ValLaws.{half_full}
use Rattle.integers.specs.Integers.{up, eq_z}
use Rattle.integers.proofs.Parts.{sub_parts, dif-parts, from_parts}
use Rattle.integers.proofs.Order.{eq_z-yes, eq_z-no}

-- ── the machine's tests ──
-- two numbers with the same bits are the same
pub of_z-inj : (w : Width) (a b : ℤ) → SFits w a → SFits w b → of_z w a ≡ of_z w b → a ≡ b
of_z-inj w a b f g e = sym (to_z-of_z f) ∙ ap (to_z w) e ∙ to_z-of_z g

pub eqb-bits : (w : Width) (a b : ℤ) → SFits w a → SFits w b → eqb (of_z w a) (of_z w b) ≡ eq_z a b
eqb-bits w a b f g = go (eq_z a b) refl
  where
    go : (t : Bool) → eq_z a b ≡ t → eqb (of_z w a) (of_z w b) ≡ t
    go true e = eq-eqb (of_z w a) (of_z w b) (ap (of_z w) (eq_z-yes a b e))
    go false e = ne_eqb (of_z w a) (of_z w b) (λ q. eq_z-no a b e (of_z-inj w a b f g q))

-- a test reads its operands back from their bits
module _ (w : Width) (a b : ℤ) {t : Bool} (f : SFits w a) (g : SFits w b) where
  pub lt-read : lt_z (to_z w (of_z w a)) (to_z w (of_z w b)) ≡ t → lt_z a b ≡ t
  lt-read e = subst (λ (x : ℤ). lt_z x b ≡ t) (to_z-of_z f) (subst (λ (y : ℤ). lt_z (to_z w (of_z w a)) y ≡ t) (to_z-of_z g) e)

  pub le_read : le_z (to_z w (of_z w a)) (to_z w (of_z w b)) ≡ t → le_z a b ≡ t
  le_read e = subst (λ (x : ℤ). le_z x b ≡ t) (to_z-of_z f) (subst (λ (y : ℤ). le_z (to_z w (of_z w a)) y ≡ t) (to_z-of_z g) e)

-- what a callee gave, read back from its bits
pub told : (w : Width) {r e : ℤ} → mag r < 2 ^ hbits w → r ≡ e → to_z w (of_z w r) ≡ e
told w k e = to_z-of_z (sfits_of k) ∙ e

-- ── a number that is not negative, as an unsigned one ──
pub nat-of : (z : ℤ) → lt_z z (pos 0) ≡ false → T (non_neg z)
nat-of (pos n) e = tt
nat-of (negsuc n) e = absurd (true≢false e)

pub up-abs : (z : ℤ) → lt_z (pos 0) z ≡ true → nat_abs z ≡ up z
up-abs (pos n) e = refl
up-abs (negsuc n) e = absurd (false≢true e)

pub up-not-neg : (z : ℤ) → lt_z (pos 0) z ≡ true → T (non_neg z)
up-not-neg (pos n) e = tt
up-not-neg (negsuc n) e = absurd (false≢true e)

-- ── carried through the bits ──
-- the upper half of the bits
pub high_bits : (w : Width) (x : ℕ) → 2 ^ hbits w ≤ x → x < 2 ^ bits w → pos x -ℤ pos (2 ^ bits w) ≡ to_z w x
high_bits w x h k =
    let e : to_z w x ≡ negsuc (2 ^ bits w - suc x) = simp (le-ltb x (2 ^ hbits w) h) in
    let d = dif-parts (pos x) (pos (2 ^ bits w)) in
    from_parts (pos x -ℤ pos (2 ^ bits w)) (negsuc (2 ^ bits w - suc x)) (omega arith) (omega arith) ∙ sym e

-- the bits of a negative number
pub low_bits : (w : Width) (v : ℤ) → SFits w v → lt_z v (pos 0) ≡ true → v +ℤ pos (2 ^ bits w) ≡ pos (of_z w v)
low_bits w (pos n) f e = absurd (omega (arith, ltb-true n 0 e))
low_bits w (negsuc n) f e =
    let h : n < 2 ^ bits w = half_full w f.sfits in
    let s = sub_parts (2 ^ bits w) (suc n) in
    from_parts (sub_ℕ (2 ^ bits w) (suc n)) (pos (2 ^ bits w - suc n)) (omega arith) (omega arith)

-- and of one that is not
pub same_bits : (w : Width) (v : ℤ) → lt_z v (pos 0) ≡ false → nat_abs v ≡ of_z w v
same_bits w (pos n) e = refl
same_bits w (negsuc n) e = absurd (true≢false e)

-- ── the casts of a width narrower than 64 bits, as a program makes them by way of 64 ──
-- a number of it, cast to 64 bits
module _ (w : Width) {z : ℤ} (less : T (leb (hbits w) 63)) (fits : SFits w z) where
  pub cast_fits : SFits w64 (to_z w (of_z w z))
  cast_fits = rw (to_z-of_z fits) (sfits_widen {w = w} {w' = w64} less fits)

  pub cast_is : to_z w64 (of_z w64 (to_z w (of_z w z))) ≡ z
  cast_is = to_z-of_z cast_fits ∙ to_z-of_z fits

-- from the upper half of the bits to the number
pub carried-down : (w : Width) (x : ℕ) → 2 ^ bits w ≤ 2 ^ 63 → 2 ^ hbits w ≤ x → x < 2 ^ bits w → to_z w64 x -ℤ pos (2 ^ bits w) ≡ to_z w x
carried-down w x n h k = ap (λ (z : ℤ). z -ℤ pos (2 ^ bits w)) (to_z_pos w64 (omega arith)) ∙ high_bits w x h k

-- from a number to its bits; the machine tests it against 0
module _ (w : Width) (v : ℤ) (f : SFits w v) (zero : SFits w (pos 0)) where
  -- a negative one
  pub record Raised : Type 0 where
    pub sum : to_z w64 (of_z w64 (to_z w (of_z w v))) +ℤ pos (2 ^ bits w) ≡ pos (of_z w v)
    pub small : of_z w v < 2 ^ 63

  pub raised : 2 ^ bits w ≤ 2 ^ 63 → T (leb (hbits w) 63) → lt_z (to_z w (of_z w v)) (to_z w (of_z w (pos 0))) ≡ true → Raised
  raised n t e = record {
    sum = simp (to_z-of_z f, to_z-of_z (sfits_widen {w = w} {w' = w64} t f)) (low_bits w v f (lt-read w v (pos 0) f zero e));
    small = let h = (Fits-of_z f).fits in omega arith;
  }

  -- one that is not
  pub level : lt_z (to_z w (of_z w v)) (to_z w (of_z w (pos 0))) ≡ false
      → T (non_neg (to_z w (of_z w v))) × Fits w (nat_abs (to_z w (of_z w v))) × (nat_abs (to_z w (of_z w v)) ≡ of_z w v)
  level e =
      let h = lt-read w v (pos 0) f zero e in
      simp (to_z-of_z f) (nat-of v h, rw (same_bits w v h) (Fits-of_z f), same_bits w v h)
