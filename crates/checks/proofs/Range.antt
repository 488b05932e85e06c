-- A number of 32 bits is in the range exactly if it is not below the lowest. Assumes nothing.
use Prim.Native.Nat.{suc, ◌<◌, ◌^◌}
use native.Mathlib.Omega.{arith}
use mathlib.Core.Bool.{Bool, true, false}
use mathlib.Core.Path.{◌≡◌, refl, sym}
use lib.Dec.{leb}
use lib.IntN.{ℤ, pos, negsuc}
use lib.Signed.{le_z}
use borrow.Author.Tests.{leb-true, leb-false, le-leb, lt-leb}
use mir.Syntax.{w32}
use mir.Val.{SFits, hbits}
use Rattle.paper.specs.Formula.{in_range}
use Rattle.paper.specs.Checks.{lowest}

pub lowest-range : (z : ℤ) → SFits w32 z → le_z lowest z ≡ in_range z
lowest-range (pos n) f = let h : n < 2 ^ hbits w32 = f.sfits in sym (le-leb n 2147483647 (omega arith))
lowest-range (negsuc n) f = go (leb n 2147483646) refl
  where
    go : (b : Bool) → leb n 2147483646 ≡ b → b ≡ leb (suc n) 2147483647
    go true e = let l = leb-true n 2147483646 e in sym (le-leb (suc n) 2147483647 (omega arith))
    go false e = let l = leb-false n 2147483646 e in sym (lt-leb (suc n) 2147483647 (omega arith))
