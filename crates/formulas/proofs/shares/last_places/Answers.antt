use native.Mathlib.Omega.{arith}
use mathlib.Core.Path.{refl}
use borrow.Author.Rules.{rules}
use lib.IntN.{pos}
use lib.ListN.{get_or}
use mir.Syntax.{w32}
use mir.Val.{SFits}
use mir.Facts.{to_z-of_z}
use Rattle.formulas.proofs.Pairs.{marked_all, one-any, told-at, turned-next, turned-most}
use Rattle.formulas.proofs.shares.last_places.Goals as goal

pub loop-i-preserved : goal.loop-i-preserved
loop-i-preserved c =
    let l = c.loop-i in let held = c.args.held.now in let m = c.mark.ensures in
    let own : SFits w32 (get_or held l.i (pos 0)) = search rules in
    turned-next held l.invariant (omega arith) (to_z-of_z own) (told-at 0 m.found refl) c.one_if-n.ensures (marked_all (one-any _) refl m.marked)

pub overflow_add-n : goal.overflow_add-n
overflow_add-n c = omega (arith, turned-most _ (loop-i-preserved c))
