-- Each arm gives what the definition has for its code, and the closing range is what is left of the codes. Assumes nothing.
use Prim.Native.Nat.{◌^◌, ◌<◌}
use native.Mathlib.Omega.{arith}
use mathlib.Core.Path.{◌≡◌, ap}
use lib.IntN.{ℤ}
use lib.Signed.{mag}
use mir.Syntax.{w32}
use mir.Val.{hbits, to_z, of_z}
use mir.Facts.{to_z-of_z}
use Rattle.std.specs.Prelude.{Option, Some}
use Rattle.integers.proofs.Bits.{told}
use Rattle.paper.specs.Formula.{formula}
use Rattle.paper.proofs.Least.{between-low, between-high}
use Rattle.formulas.specs.Row.{worked}
use Rattle.formulas.proofs.formula.Goals as goal

gives : {r e : ℤ} → mag r < 2 ^ hbits w32 → r ≡ e → ◌≡◌ {A = Option ℤ} (Some (to_z w32 (of_z w32 r))) (Some e)
gives k p = ap Some (told w32 k p)

pub returns-in-1 : goal.returns-in-1
unfolding worked formula
returns-in-1 c = simp c.in-1.is (gives c.linear.type_inv (simp (to_z-of_z c.ranges.param) at c.linear.ensures))

pub returns-in-2 : goal.returns-in-2
unfolding worked formula
returns-in-2 c = simp c.in-2.is (gives c.least.type_inv c.least.ensures)

pub returns-in-3 : goal.returns-in-3
unfolding worked formula
returns-in-3 c = simp c.in-3.is (gives c.greatest.type_inv c.greatest.ensures)

pub returns-in-4 : goal.returns-in-4
unfolding worked formula
returns-in-4 c = simp c.in-4.is (gives c.element.type_inv c.element.ensures)

pub returns-in-5 : goal.returns-in-5
unfolding worked formula
returns-in-5 c = simp c.in-5.is (gives c.shared.type_inv c.shared.ensures)

pub returns-in-6 : goal.returns-in-6
unfolding worked formula
returns-in-6 c = simp c.in-6.is (gives c.count.type_inv (simp (to_z-of_z c.ranges.param) at c.count.ensures))

pub returns-in-7 : goal.returns-in-7
unfolding worked formula
returns-in-7 c = simp c.in-7.is (gives c.over.type_inv c.over.ensures)

pub returns-in-8 : goal.returns-in-8
unfolding worked formula
returns-in-8 c = simp c.in-8.is (gives c.departures.type_inv c.departures.ensures)

pub returns-in-9 : goal.returns-in-9
unfolding worked formula
returns-in-9 c = simp c.in-9.is (gives c.last.type_inv c.last.ensures)

pub returns-in-0 : goal.returns-in-0
unfolding worked
returns-in-0 c = simp (between-low 1 c.args.kind 9 (omega arith))

pub returns-in-0-2 : goal.returns-in-0-2
unfolding worked
returns-in-0-2 c = simp (between-high 1 c.args.kind 9 (omega arith))
