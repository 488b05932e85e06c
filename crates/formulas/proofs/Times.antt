-- How far the times of a window of 32-bit numbers reach: they stay well within 64 bits, and the last before the end within 32. Assumes nothing.
use Prim.Native.Nat.{ℕ, zero, suc, ◌+◌, ◌-◌, ◌*◌, ◌/◌, ◌<◌, ◌≤◌}
use native.Mathlib.Nat.{mul-le-mul_left}
use native.Mathlib.Omega.{arith}
use mathlib.Core.Bool.{Bool, true, false, cond}
use mathlib.Core.Logic.{⊎_elim}
use mathlib.Core.Path.{◌≡◌, refl, sym}
use lib.IntN.{ℤ, pos, nat_abs, ◌+ℤ◌, ◌-ℤ◌, ◌*ℤ◌}
use lib.Signed.{lt_z}
use mir.Syntax.{w32}
use mir.Val.{SFits}
use mir.Facts.{sfits_lit}
use Rattle.integers.specs.Integers.{away}
use Rattle.integers.proofs.Parts.{one-part, dif-bal, dif-away, mul-bound}
use Rattle.integers.proofs.Order.{lt_yes, le_yes, yes_lt, nat_abs-away}
use Rattle.integers.proofs.Ranges.{fits-parts, fits-away, parts-fit}
use Rattle.integers.proofs.Bits.{up-abs}
use Rattle.paper.specs.Formula.{trips, last}
use Rattle.paper.proofs.Windows.{before-end, Between, last-of, last-lies}

pub gap-above : (s e : ℤ) → lt_z s e ≡ true → lt_z (pos 0) (e -ℤ s) ≡ true
gap-above s e h = yes_lt (pos 0) (e -ℤ s) (omega (arith, lt_yes s e h, dif-bal e s))

pub gap-most : (s e : ℤ) → SFits w32 s → SFits w32 e → nat_abs (e -ℤ s) ≤ 4294967296
gap-most s e f g = omega (arith, nat_abs-away (e -ℤ s), dif-away e s, fits-away w32 s f, fits-away w32 e g)

pub some-headway : (h : ℤ) → lt_z (pos 0) h ≡ true → 0 < nat_abs h
some-headway h p = omega (arith, lt_yes (pos 0) h p, up-abs h p)

-- the times before the end: how many they are
pub trips-most : (s e h : ℤ) → SFits w32 s → SFits w32 e → lt_z (pos 0) h ≡ true → trips s e h ≤ 4294967296
trips-most s e h f g p = by (lt_z s e)
  where
    some : (n : ℕ) → n ≡ (nat_abs (e -ℤ s) + nat_abs h - 1) / nat_abs h → n ≤ 4294967296
    some zero q = omega arith
    some (suc k) q =
        let b = before-end (nat_abs (e -ℤ s)) (nat_abs h) k (some-headway h p) (omega arith) in
        let m : k * 1 ≤ k * nat_abs h = mul-le-mul_left k (some-headway h p) in
        omega (arith, gap-most s e f g)

    by : (b : Bool) → cond b ((nat_abs (e -ℤ s) + nat_abs h - 1) / nat_abs h) 0 ≤ 4294967296
    by true = some ((nat_abs (e -ℤ s) + nat_abs h - 1) / nat_abs h) refl
    by false = omega arith

-- a product with a headway leaves room in 64 bits for a start
pub room : (s h : ℤ) (k : ℕ) → SFits w32 s → SFits w32 h → lt_z (pos 0) h ≡ true → k ≤ 4294967296 → away s + away (pos k *ℤ h) < 9223372036854775808
room s h k f g p l =
    let m = mul-bound (pos k) h 4294967296 2147483647 (omega arith) (omega (arith, lt_yes (pos 0) h p, one-part h, fits-parts w32 h g)) in
    omega (arith, fits-away w32 s f)

-- the time that n - 1 of n are before
pub last-is : (s e h : ℤ) (n : ℕ) → lt_z (pos 0) h ≡ true → n ≡ trips s e h → (n ≡ 0 → ⊥) → s +ℤ pos (n - 1) *ℤ h ≡ last s e h
last-is s e h zero p q z = absurd (z refl)
last-is s e h (suc k) p q z = let d : suc k - 1 ≡ k = omega arith in rw d (sym (last-of s e h p (suc k) (sym q)))

-- it lies from the start to before the end, so 32 bits hold it
pub last_fits : (s e h : ℤ) → SFits w32 s → SFits w32 e → SFits w32 (last s e h)
last_fits s e h f g = ⊎_elim (λ b. rw b (sfits_lit tt)) within (last-lies s e h)
  where
    within : Between s (last s e h) e → SFits w32 (last s e h)
    within b =
        let z = last s e h in let k = one-part z in
        let l = le_yes s z b.0 in let m = lt_yes z e b.1 in let i = fits-parts w32 s f in let j = fits-parts w32 e g in
        parts-fit w32 z (omega (arith, one-part e)) (omega (arith, one-part s))
