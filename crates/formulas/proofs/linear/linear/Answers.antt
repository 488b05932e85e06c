-- 256 terms keep the exact sum in 64 bits. Assumes nothing.
use native.Mathlib.Omega.{arith}
use mathlib.Core.Path.{◌∙◌}
use borrow.Author.Rules.{rules, sfits_of}
use lib.IntN.{pos}
use lib.ListN.{get_or}
use mir.Syntax.{w16, w32, w64}
use mir.Val.{SFits}
use mir.Facts.{to_z-of_z}
use Rattle.integers.proofs.Bits.{told}
use Rattle.formulas.proofs.Sums.{term-room, summed-next}
use Rattle.formulas.proofs.linear.linear.Goals as goal

pub plus_product-sum-requires : goal.plus_product-sum-requires
plus_product-sum-requires c =
    let k : SFits w16 (get_or c.args.coefs.now c.loop-i.i (pos 0)) = search rules in
    let x : SFits w32 c.at-x.result = sfits_of c.at-x.type_inv in
    simp (told w64 c.from.type_inv c.from.ensures, told w64 c.from-in-loop-i.type_inv c.from-in-loop-i.ensures, to_z-of_z k, to_z-of_z x) (omega (arith, term-room _ _ k x, c.loop-i.invariant.room))

pub loop-i-preserved : goal.loop-i-preserved
loop-i-preserved c =
    let k : SFits w16 (get_or c.args.coefs.now c.loop-i.i (pos 0)) = search rules in
    let x : SFits w32 c.at-x.result = sfits_of c.at-x.type_inv in
    summed-next c.loop-i.invariant (omega arith) (omega arith) (simp (told w32 c.at-x.type_inv c.at-x.ensures) at c.is_blank-blank.ensures)
    (told w64 c.plus_product-sum.type_inv (simp (told w64 c.from.type_inv c.from.ensures, told w64 c.from-in-loop-i.type_inv c.from-in-loop-i.ensures, to_z-of_z k, to_z-of_z x ∙ c.at-x.ensures) at c.plus_product-sum.ensures))
    (term-room _ _ k (rw c.at-x.ensures at x))
