-- The places that hold the parameter are counted, at most all of them. Assumes nothing.
use native.Mathlib.Omega.{arith}
use Prim.Native.Nat.{◌<◌}
use borrow.Author.Rules.{sfits_of}
use mir.Syntax.{w32}
use mir.Val.{to_z, of_z}
use mir.Facts.{to_z-of_z, to_z_pos}
use Rattle.integers.specs.Integers.{eq_z}
use Rattle.integers.proofs.Bits.{told}
use Rattle.formulas.proofs.Counting.{tally-most}
use Rattle.formulas.proofs.places.count.Goals as goal

few : (c : goal.After-places) → c.places.result < 2147483648
few c = omega (arith, c.places.ensures, tally-most (λ x. eq_z x (to_z w32 (of_z w32 c.args.param))) c.args.row.vars.now c.args.row.values.now)

pub overflow_cast-places : goal.overflow_cast-places
overflow_cast-places c = sfits_of (few c)

pub returns : goal.returns
returns c =
    let few : c.places.result < 2147483648 = omega (arith, c.places.ensures, tally-most (λ x. eq_z x (to_z w32 (of_z w32 c.args.param))) c.args.row.vars.now c.args.row.values.now) in
    told w32 c.unless_blank.type_inv (simp (c.places.ensures, to_z-of_z c.ranges.param) at (simp (to_z_pos w32 few) at c.unless_blank.ensures))
