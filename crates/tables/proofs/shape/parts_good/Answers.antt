use Prim.Native.Nat.{◌<◌}
use native.Mathlib.Omega.{arith}
use borrow.Author.Rules.{rules}
use Rattle.paper.specs.Lists.{nat}
use Rattle.tables.proofs.Placing.{placing-start, placing-next, placing-end}
use Rattle.tables.proofs.shape.parts_good.Goals as goal

pub loop-row-init : goal.loop-row-init
loop-row-init c = (omega arith, placing-start _ _ _)

pub loop-row-preserved : goal.loop-row-preserved
loop-row-preserved c =
    let a = c.args.tables.now in let row = c.loop-row.row in
    let f : nat a.firsts.now row < 65536 = search rules in let k : nat a.counts.now row < 65536 = search rules in
    rw c.from-first.ensures (rw c.from.ensures (omega arith, placing-next _ _ _ _ _ _ c.loop-row.invariant.1 (omega arith) (omega arith)))

pub returns : goal.returns
returns c = placing-end _ _ _ _ _ _ c.loop-row.invariant.1 _ (omega arith)
