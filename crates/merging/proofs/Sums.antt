-- Two sums that are at most half as large as fits can be added. Assumes nothing.
use Prim.Native.Nat.{◌≤◌}
use native.Mathlib.Omega.{arith}
use mathlib.Core.Bool.{true, ◌&&◌}
use mathlib.Core.Path.{◌≡◌}
use lib.IntN.{ℤ, pos, negsuc, ◌+ℤ◌}
use lib.Signed.{le_z}
use mir.Syntax.{w64}
use mir.Val.{SFits}
use Rattle.integers.specs.Integers.{away}
use Rattle.integers.proofs.Order.{le_yes}
use Rattle.integers.proofs.Parts.{one-part, sum_away}
use Rattle.integers.proofs.Ranges.{away-fit}
use Rattle.paper.proofs.Lists.{and_left, and_right}
use Rattle.merging.specs.Merge.{half_fits}

half-away : (z : ℤ) → half_fits z ≡ true → away z ≤ 4611686018427387903
half-away z h =
    let low = le_z (negsuc 4611686018427387902) z in let high = le_z z (pos 4611686018427387903) in
    let a = le_yes (negsuc 4611686018427387902) z (and_left low high h) in let b = le_yes z (pos 4611686018427387903) (and_right low high h) in let o = one-part z in omega arith

pub sum_fits : (a b : ℤ) → (half_fits a && half_fits b) ≡ true → SFits w64 (a +ℤ b)
sum_fits a b h =
    let x = half-away a (and_left (half_fits a) (half_fits b) h) in let y = half-away b (and_right (half_fits a) (half_fits b) h) in
    away-fit w64 (a +ℤ b) (omega (arith, sum_away a b))
