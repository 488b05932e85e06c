use native.Mathlib.Omega.{arith}
use lib.Seq.{get_or-take, length-take-le}
use Rattle.paper.proofs.Scan.{total-next}
use Rattle.tables.proofs.shape.total_of.Goals as goal

pub loop-count-preserved : goal.loop-count-preserved
loop-count-preserved c =
    let t = c.args.tables.now in let l = c.loop-count in
    let long = length-take-le t.m t.counts.now c.requires.0 in
    let own = get_or-take t.m t.counts.now l.count-index 0 (omega arith) in
    let w = c.wide-sum.ensures in let sum = l.invariant.1 in
    (omega arith, omega (arith, total-next t.counts.now l.count-index (omega arith)))
