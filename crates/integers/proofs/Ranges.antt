-- The range of a width, by the parts of an integer. Assumes nothing.
use Prim.Native.Nat.{◌^◌, ◌≤◌, ◌<◌}
use native.Mathlib.Omega.{arith}
use lib.Dec.{T, leb}
use lib.IntN.{ℤ, pos, negsuc}
use mir.Syntax.{Width, w64}
use mir.Val.{SFits, hbits}
use mir.Facts.{sfits_widen}
use Rattle.integers.specs.Integers.{up, dn, away}
use Rattle.integers.proofs.Parts.{one-part}

-- ── in range says ──
pub fits-parts : (w : Width) (z : ℤ) → SFits w z → (up z < 2 ^ hbits w) × (dn z ≤ 2 ^ hbits w)
fits-parts w (pos n) f = let h : n < 2 ^ hbits w = f.sfits in omega arith
fits-parts w (negsuc n) f = let h : n < 2 ^ hbits w = f.sfits in omega arith

pub fits-away : (w : Width) (z : ℤ) → SFits w z → away z ≤ 2 ^ hbits w
fits-away w z f = omega (arith, fits-parts w z f, one-part z)

-- ── and is said ──
pub parts-fit : (w : Width) (z : ℤ) → up z < 2 ^ hbits w → dn z ≤ 2 ^ hbits w → SFits w z
parts-fit w (pos n) h k = record { sfits = h }
parts-fit w (negsuc n) h k = record { sfits = k }

pub away-fit : (w : Width) (z : ℤ) → away z < 2 ^ hbits w → SFits w z
away-fit w z h = parts-fit w z (omega arith) (omega arith)

-- what fits a width fits 64 bits
pub as64 : {w : Width} {z : ℤ} → T (leb (hbits w) 63) → SFits w z → SFits w64 z
as64 t f = sfits_widen t f
