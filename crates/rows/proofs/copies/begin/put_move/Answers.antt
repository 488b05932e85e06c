use Prim.Native.Nat.{◌-◌}
use native.Mathlib.Omega.{arith}
use borrow.Author.Rules.{rules}
use lib.IntN.{pos}
use lib.ListN.{get_or}
use mir.Syntax.{w32}
use mir.Val.{SFits}
use mir.Facts.{to_z-of_z}
use Rattle.rows.proofs.Put.{putting-start, putting-next, putting-end}
use Rattle.rows.proofs.copies.begin.put_move.Goals as goal

pub loop-i-init : goal.loop-i-init
loop-i-init c = putting-start _ _

pub loop-i-preserved : goal.loop-i-preserved
loop-i-preserved c =
    let l = c.loop-i in
    let fits : SFits w32 (get_or c.args.mv.now.values.now (l.i - 1) (pos 0)) = search rules in
    putting-next _ _ _ l.i (l.i - 1) l.invariant (omega arith) c.wide.ensures.0 (to_z-of_z fits)

pub returns : goal.returns
returns c = putting-end _ _ _ _ c.loop-i.invariant (omega arith)
