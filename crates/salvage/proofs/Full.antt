-- Full bounds are good, and every value of 32 bits that is not blank lies within them. Assumes nothing.
use Prim.Native.Nat.{◌<◌, ◌^◌}
use native.Mathlib.Omega.{arith}
use mathlib.Core.Bool.{Bool, true, false, not, ◌&&◌}
use mathlib.Core.Path.{◌≡◌, refl, ap}
use lib.IntN.{ℤ, pos, negsuc}
use lib.Signed.{le_z}
use borrow.Author.Tests.{eqb-false, not-true, le-leb}
use mir.Syntax.{w32}
use mir.Val.{SFits, hbits}
use Rattle.integers.specs.Integers.{eq_z}
use Rattle.paper.specs.Formula.{blank}
use Rattle.paper.specs.Checks.{lowest, highest, bound_good}
use Rattle.paper.proofs.Lists.{all_yes}

pub full-good : (made : Bool) → bound_good made lowest highest ≡ true
full-good true = refl
full-good false = all_yes _ (refl, (refl, (refl, tt)))

pub full-within : (x : ℤ) → SFits w32 x → not (eq_z x blank) ≡ true → (le_z lowest x && le_z x highest) ≡ true
full-within (pos n) f h = let l : n < 2 ^ hbits w32 = f.sfits in le-leb n 2147483647 (omega arith)
full-within (negsuc n) f h =
    let l : n < 2 ^ hbits w32 = f.sfits in let other = eqb-false n 2147483647 (not-true _ h) in
    ap (◌&& true) (le-leb n 2147483646 (omega arith))
