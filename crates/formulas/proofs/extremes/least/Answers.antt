use Prim.Native.Nat.{◌-◌}
use native.Mathlib.Omega.{arith}
use borrow.Author.Rules.{rules}
use lib.IntN.{pos}
use lib.ListN.{length, get_or, drop, length-take, length-drop}
use mir.Syntax.{w32}
use mir.Val.{SFits}
use mir.Facts.{to_z-of_z}
use Rattle.integers.proofs.Bits.{told}
use Rattle.formulas.proofs.Reading.{later-input}
use Rattle.formulas.proofs.Skipping.{least-next}
use Rattle.formulas.proofs.extremes.least.Goals as goal

pub loop-v-preserved : goal.loop-v-preserved
loop-v-preserved c =
    let vars = c.args.row.vars.now in let values = c.args.row.values.now in let l = c.loop-v in let s = c.standing in let rest = length-drop 1 vars in
    let taken = length-take (length vars - 1) (drop 1 vars) in
    let f : SFits w32 (get_or values c.from.result (pos 0)) = search rules in
    least-next l.invariant (omega arith) f (later-input vars values l.v-index c.from.result (omega arith) c.from.ensures)
    (told w32 s.type_inv (simp (to_z-of_z f) at s.ensures)) (told w32 c.min-left.type_inv c.min-left.ensures.value)
