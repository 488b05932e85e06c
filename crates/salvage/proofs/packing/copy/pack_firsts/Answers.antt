-- The sum so far is at most the whole (`total-within`), and a turn adds one count to it (`total-next`). Assumes nothing.
use native.Mathlib.Omega.{arith}
use Rattle.paper.proofs.Buffers.{filled_next}
use Rattle.paper.proofs.Scan.{total-next}
use Rattle.damage.proofs.Packed.{total-within}
use Rattle.salvage.proofs.packing.copy.pack_firsts.Goals as goal

pub overflow_cast-out : goal.overflow_cast-out
overflow_cast-out c =
    omega (arith, total-within c.args.counts.now c.loop-i.i (omega arith), c.requires.1, c.loop-i.invariant.0)

pub overflow_add-first : goal.overflow_add-first
overflow_add-first c =
    omega (arith, total-within c.args.counts.now c.loop-i.i (omega arith), c.requires.1, c.loop-i.invariant.0, c.wide-first.ensures.0)

pub loop-i-preserved : goal.loop-i-preserved
loop-i-preserved c =
    let l = c.loop-i in
    (omega (arith, total-next c.args.counts.now l.i (omega arith), l.invariant.0, c.wide-first.ensures.0), filled_next _ _ _ _ l.invariant.1 (omega (arith, c.requires.0)) l.invariant.0)
