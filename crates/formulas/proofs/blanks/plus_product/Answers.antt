-- The clause leaves room for the product and for the sum. Assumes nothing.
use native.Mathlib.Omega.{arith}
use lib.IntN.{◌+ℤ◌, ◌*ℤ◌}
use mir.Syntax.{w64}
use mir.Val.{SFits}
use mir.Facts.{to_z-of_z}
use Rattle.integers.proofs.Parts.{sum_away}
use Rattle.integers.proofs.Ranges.{away-fit}
use Rattle.formulas.proofs.blanks.plus_product.Goals as goal

pub returns : goal.returns
returns c =
    let s = c.args in
    let product : SFits w64 (s.a *ℤ s.b) = away-fit w64 (s.a *ℤ s.b) (omega arith) in
    let whole : SFits w64 (s.sum +ℤ s.a *ℤ s.b) = away-fit w64 (s.sum +ℤ s.a *ℤ s.b) (omega (arith, sum_away s.sum (s.a *ℤ s.b))) in
    simp (to_z-of_z c.ranges.sum, to_z-of_z c.ranges.a, to_z-of_z c.ranges.b, to_z-of_z product, to_z-of_z whole)
