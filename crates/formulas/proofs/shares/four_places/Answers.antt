-- Each of the four shares its value exactly if an earlier place, one of the other three or a later place holds it (`turned-four`). Assumes nothing.
use Prim.Native.Nat.{◌+◌}
use native.Mathlib.Omega.{arith}
use mathlib.Core.Path.{refl}
use borrow.Author.Rules.{rules}
use lib.IntN.{pos}
use lib.ListN.{get_or}
use mir.Syntax.{w32}
use mir.Val.{SFits}
use mir.Facts.{to_z-of_z}
use Rattle.formulas.proofs.Pairs.{marked_all, four-any, told-at, turned-four, turned-most}
use Rattle.formulas.proofs.shares.four_places.Goals as goal

pub returns : goal.returns
returns c =
    let held = c.args.held.now in let i = c.args.i in let found = c.mark.ensures.found in
    let fa : SFits w32 (get_or held i (pos 0)) = search rules in let fb : SFits w32 (get_or held (i + 1) (pos 0)) = search rules in
    let fc : SFits w32 (get_or held (i + 2) (pos 0)) = search rules in let fd : SFits w32 (get_or held (i + 3) (pos 0)) = search rules in
    turned-four held c.requires.2 c.requires.0 (to_z-of_z fa) (to_z-of_z fb) (to_z-of_z fc) (to_z-of_z fd) (
      marked_all (four-any _ _ _ _) refl c.mark.ensures.marked,
      told-at 0 found refl,
      told-at 1 found refl,
      told-at 2 found refl,
      told-at 3 found refl,
      c.one_of_four-one_a.ensures,
      c.one_of_four-one_b.ensures,
      c.one_of_four-one_c.ensures,
      c.one_of_four-one_d.ensures,
    )

pub overflow_add-result : goal.overflow_add-result
overflow_add-result c = omega (arith, turned-most _ (returns c), c.requires.1)

pub overflow_add-result-2 : goal.overflow_add-result-2
overflow_add-result-2 c = omega (arith, turned-most _ (returns c), c.requires.1)

pub overflow_add-result-3 : goal.overflow_add-result-3
overflow_add-result-3 c = omega (arith, turned-most _ (returns c), c.requires.1)

pub overflow_add-result-4 : goal.overflow_add-result-4
overflow_add-result-4 c = omega (arith, turned-most _ (returns c), c.requires.1)
