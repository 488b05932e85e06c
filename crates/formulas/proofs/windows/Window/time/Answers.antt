-- The product and the sum have room in 64 bits. Assumes nothing.
use Prim.Native.Nat.{◌<◌}
use native.Mathlib.Omega.{arith}
use borrow.Author.Rules.{rules}
use mir.Syntax.{w32, w64}
use mir.Val.{SFits}
use mir.Facts.{to_z-of_z, to_z_pos}
use Rattle.integers.proofs.Bits.{told}
use Rattle.formulas.proofs.Times.{room}
use Rattle.formulas.proofs.windows.Window.time.Goals as goal

pub plus_product-requires : goal.plus_product-requires
plus_product-requires c =
    let w = c.args.self in let k = c.args.k in
    let s : SFits w32 w.start = search rules in let h : SFits w32 w.headway = search rules in
    let few : k < 9223372036854775808 = omega (arith, c.requires.1) in
    simp (told w64 c.from.type_inv c.from.ensures, to_z_pos w64 few, told w64 c.from-2.type_inv c.from-2.ensures, to_z-of_z s, to_z-of_z h) (room w.start w.headway k s h c.requires.0 c.requires.1)
