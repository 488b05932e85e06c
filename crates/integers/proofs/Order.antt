-- The tests of two integers as facts of their parts, and back. Assumes nothing.
use mathlib.Core.Path.{◌≡◌, refl, sym, ap, ◌∙◌}
use mathlib.Core.Bool.{true, false, false≢true, true≢false}
use Prim.Native.Nat.{ℕ, suc, ◌+◌, ◌≤◌, ◌<◌}
use native.Mathlib.Omega.{arith}
use lib.Dec.{leb}
use lib.IntN.{ℤ, pos, negsuc, nat_abs}
use lib.Signed.{lt_z, le_z}
use borrow.Author.Tests.{ltb-true, ltb-false, leb-true, leb-false, eqb-true, lt-ltb, le-ltb, le-leb, lt-leb, eq-eqb}
use Rattle.integers.specs.Integers.{up, dn, away, eq_z}

-- ── a test says ──
pub lt_yes : (a b : ℤ) → lt_z a b ≡ true → up a + dn b < up b + dn a
lt_yes (pos a) (pos b) e = omega (arith, ltb-true a b e)
lt_yes (pos a) (negsuc b) e = absurd (false≢true e)
lt_yes (negsuc a) (pos b) e = omega arith
lt_yes (negsuc a) (negsuc b) e = omega (arith, ltb-true b a e)

pub lt_no : (a b : ℤ) → lt_z a b ≡ false → up b + dn a ≤ up a + dn b
lt_no (pos a) (pos b) e = omega (arith, ltb-false a b e)
lt_no (pos a) (negsuc b) e = omega arith
lt_no (negsuc a) (pos b) e = absurd (true≢false e)
lt_no (negsuc a) (negsuc b) e = omega (arith, ltb-false b a e)

pub le_yes : (a b : ℤ) → le_z a b ≡ true → up a + dn b ≤ up b + dn a
le_yes (pos a) (pos b) e = omega (arith, leb-true a b e)
le_yes (pos a) (negsuc b) e = absurd (false≢true e)
le_yes (negsuc a) (pos b) e = omega arith
le_yes (negsuc a) (negsuc b) e = omega (arith, leb-true b a e)

pub le-no : (a b : ℤ) → le_z a b ≡ false → up b + dn a < up a + dn b
le-no (pos a) (pos b) e = omega (arith, leb-false a b e)
le-no (pos a) (negsuc b) e = omega arith
le-no (negsuc a) (pos b) e = absurd (true≢false e)
le-no (negsuc a) (negsuc b) e = omega (arith, leb-false b a e)

-- ── and is said ──
pub yes_lt : (a b : ℤ) → up a + dn b < up b + dn a → lt_z a b ≡ true
yes_lt (pos a) (pos b) h = lt-ltb a b (omega arith)
yes_lt (pos a) (negsuc b) h = absurd (omega arith)
yes_lt (negsuc a) (pos b) h = refl
yes_lt (negsuc a) (negsuc b) h = lt-ltb b a (omega arith)

pub no_lt : (a b : ℤ) → up b + dn a ≤ up a + dn b → lt_z a b ≡ false
no_lt (pos a) (pos b) h = le-ltb a b (omega arith)
no_lt (pos a) (negsuc b) h = refl
no_lt (negsuc a) (pos b) h = absurd (omega arith)
no_lt (negsuc a) (negsuc b) h = le-ltb b a (omega arith)

pub yes_le : (a b : ℤ) → up a + dn b ≤ up b + dn a → le_z a b ≡ true
yes_le (pos a) (pos b) h = le-leb a b (omega arith)
yes_le (pos a) (negsuc b) h = absurd (omega arith)
yes_le (negsuc a) (pos b) h = refl
yes_le (negsuc a) (negsuc b) h = le-leb b a (omega arith)

pub no_le : (a b : ℤ) → up b + dn a < up a + dn b → le_z a b ≡ false
no_le (pos a) (pos b) h = lt-leb a b (omega arith)
no_le (pos a) (negsuc b) h = refl
no_le (negsuc a) (pos b) h = absurd (omega arith)
no_le (negsuc a) (negsuc b) h = lt-leb b a (omega arith)

-- a ≤ b failed is b < a, and the other way
pub le-lt : (a b : ℤ) → le_z a b ≡ false → lt_z b a ≡ true
le-lt a b e = yes_lt b a (omega (arith, le-no a b e))

-- ── equality ──
pub eq_z-yes : (a b : ℤ) → eq_z a b ≡ true → a ≡ b
eq_z-yes (pos a) (pos b) e = ap pos (eqb-true a b e)
eq_z-yes (pos a) (negsuc b) e = absurd (false≢true e)
eq_z-yes (negsuc a) (pos b) e = absurd (false≢true e)
eq_z-yes (negsuc a) (negsuc b) e = ap negsuc (eqb-true a b e)

pub eq_z-self : (a : ℤ) → eq_z a a ≡ true
eq_z-self (pos a) = eq-eqb a a refl
eq_z-self (negsuc a) = eq-eqb a a refl

pub eq_z-no : (a b : ℤ) → eq_z a b ≡ false → a ≡ b → ⊥
eq_z-no a b e q = true≢false (sym (eq_z-self a) ∙ ap (eq_z a) q ∙ e)

-- ── the size, by a test on each side ──
pub nat_abs-away : (z : ℤ) → nat_abs z ≡ away z
nat_abs-away (pos n) = omega arith
nat_abs-away (negsuc n) = omega arith

pub away-low : (z : ℤ) (b : ℕ) → lt_z z (negsuc b) ≡ true → leb (nat_abs z) (suc b) ≡ false
away-low (pos n) b h = absurd (false≢true h)
away-low (negsuc n) b h = let l = ltb-true b n h in lt-leb (suc n) (suc b) (omega arith)

pub away-rest : (z : ℤ) (b : ℕ) → lt_z z (negsuc b) ≡ false → le_z z (pos (suc b)) ≡ leb (nat_abs z) (suc b)
away-rest (pos n) b h = refl
away-rest (negsuc n) b h = let l = ltb-false b n h in sym (le-leb (suc n) (suc b) (omega arith))
