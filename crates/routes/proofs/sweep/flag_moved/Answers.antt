use Rattle.std.proofs.Common.{sym, subst}
use mathlib.Core.List.{Memᴰ}
use Rattle.routes.proofs.Members.{at_place}
use Rattle.routes.proofs.sweep.flag_moved.Goals as goal

-- the variable of this turn is among the moves
pub moved-requires : goal.moved-requires
moved-requires c =
    let m = subst (λ v. Memᴰ v c.args.moves.now) (sym c.wide-v.ensures.0) (at_place c.args.moves.now c.loop-m.m-index c.loop-m-test.true) in
    (c.requires.in-stored _ m, c.requires.in-trial _ m)

pub flag_readers-requires : goal.flag_readers-requires
flag_readers-requires c =
    let m = subst (λ v. Memᴰ v c.args.moves.now) (sym c.wide-v.ensures.0) (at_place c.args.moves.now c.loop-m.m-index c.loop-m-test.true) in
    rw c.loop-m.invariant.0 (c.requires.sections _ m)
