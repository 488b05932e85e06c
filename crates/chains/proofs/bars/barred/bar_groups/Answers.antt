use Rattle.std.proofs.Common.{arith, ◌≡◌, subst}
use Rattle.chains.specs.Back.{back_in, BarredFlags}
use Rattle.chains.proofs.Barring.{barred-next}
use Rattle.chains.proofs.bars.barred.bar_groups.Goals as goal

pub loop-v-preserved : goal.loop-v-preserved
loop-v-preserved c =
    let w = c.wide.ensures in barred-next _ _ _ _ _ _ c.loop-v.invariant w.0 w.1 c.index_back.ensures

pub returns : goal.returns
returns c =
    let a = c.args in
    let done : c.loop-v.v ≡ a.links.now.n = omega arith in
    subst (λ k. BarredFlags (back_in a.kinds.now a.by.now a.links.now a.marks.now) a.marks.now k c.loop-v.barred) done c.loop-v.invariant
