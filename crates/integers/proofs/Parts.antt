-- Sums, differences, negation and products by the two parts of an integer. The laws that end in -bal have no truncated difference in them:
-- `omega` splits into cases at each such difference, at most six times in a goal, and at none of these. Assumes nothing.
use mathlib.Core.Path.{◌≡◌, refl, ap}
use mathlib.Core.Bool.{Bool, true, false, cond}
use Prim.Native.Nat.{ℕ, zero, suc, ◌+◌, ◌-◌, ◌*◌, ◌≤◌, ◌<◌}
use native.Mathlib.Omega.{arith}
use native.Mathlib.Nat as N
use lib.Dec.{ltb}
use lib.IntN.{ℤ, pos, negsuc, neg_ℤ, sub_ℕ, ◌+ℤ◌, ◌-ℤ◌, ◌*ℤ◌}
use borrow.Author.Tests.{ltb-true, ltb-false}
use Rattle.integers.specs.Integers.{up, dn, away}

-- one of the parts is 0
pub one-part : (z : ℤ) → up z ≡ up z - dn z
one-part (pos n) = omega arith
one-part (negsuc n) = omega arith

-- the parts say which integer
pub from_parts : (a b : ℤ) → up a ≡ up b → dn a ≡ dn b → a ≡ b
from_parts (pos a) (pos b) p q = ap pos p
from_parts (pos a) (negsuc b) p q = absurd (omega arith)
from_parts (negsuc a) (pos b) p q = absurd (omega arith)
from_parts (negsuc a) (negsuc b) p q = ap negsuc (omega arith)

-- ── each operation ──
sub_by : (t : Bool) (a b : ℕ) → (t ≡ true → a < b) → (t ≡ false → b ≤ a)
    → (up (cond t (negsuc (b - suc a)) (pos (a - b))) ≡ a - b) × (dn (cond t (negsuc (b - suc a)) (pos (a - b))) ≡ b - a)
sub_by true a b y n = let h : a < b = y refl in omega arith
sub_by false a b y n = let h : b ≤ a = n refl in omega arith

pub sub_parts : (a b : ℕ) → (up (sub_ℕ a b) ≡ a - b) × (dn (sub_ℕ a b) ≡ b - a)
sub_parts a b = sub_by (ltb a b) a b (ltb-true a b) (ltb-false a b)

pub sum-parts : (a b : ℤ) → (up (a +ℤ b) ≡ (up a + up b) - (dn a + dn b)) × (dn (a +ℤ b) ≡ (dn a + dn b) - (up a + up b))
sum-parts (pos a) (pos b) = omega arith
sum-parts (pos a) (negsuc b) = omega (arith, sub_parts a (suc b))
sum-parts (negsuc a) (pos b) = omega (arith, sub_parts b (suc a))
sum-parts (negsuc a) (negsuc b) = omega arith

pub neg-parts : (a : ℤ) → (up (neg_ℤ a) ≡ dn a) × (dn (neg_ℤ a) ≡ up a)
neg-parts (pos zero) = omega arith
neg-parts (pos (suc n)) = omega arith
neg-parts (negsuc n) = omega arith

pub dif-parts : (a b : ℤ) → (up (a -ℤ b) ≡ (up a + dn b) - (dn a + up b)) × (dn (a -ℤ b) ≡ (dn a + up b) - (up a + dn b))
dif-parts a b = omega (arith, sum-parts a (neg_ℤ b), neg-parts b)

pub sum-bal : (a b : ℤ) → up (a +ℤ b) + (dn a + dn b) ≡ dn (a +ℤ b) + (up a + up b)
sum-bal a b = omega (arith, sum-parts a b)

pub dif-bal : (a b : ℤ) → up (a -ℤ b) + (dn a + up b) ≡ dn (a -ℤ b) + (up a + dn b)
dif-bal a b = omega (arith, dif-parts a b)

-- ── how far from 0 ──
pub sum_away : (a b : ℤ) → away (a +ℤ b) ≤ away a + away b
sum_away a b = omega (arith, sum-parts a b)

pub dif-away : (a b : ℤ) → away (a -ℤ b) ≤ away a + away b
dif-away a b = omega (arith, dif-parts a b)

mul-away : (a b : ℤ) → away (a *ℤ b) ≡ away a * away b
mul-away (pos a) (pos b) = simp (N.add-zero)
mul-away (pos a) (negsuc b) = omega (arith, neg-parts (pos (a * suc b)))
mul-away (negsuc a) (pos b) = omega (arith, neg-parts (pos (suc a * b)))
mul-away (negsuc a) (negsuc b) = omega arith

pub mul-bound : (a b : ℤ) (A B : ℕ) → away a ≤ A → away b ≤ B → away (a *ℤ b) ≤ A * B
mul-bound a b A B h k = rw (mul-away a b) (N.mul-le-mul h k)
