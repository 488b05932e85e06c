use Rattle.std.proofs.Common.{◌≡◌, arith}
use Rattle.groups.proofs.Sweeping.{swept-start, swept-leading, swept_step}
use Rattle.groups.proofs.walk.visit_all.Goals as goal

pub loop-v-init : goal.loop-v-init
loop-v-init c = swept-start _ _ _ _ _ c.requires.clean.0 c.requires.clean.1 c.requires.clean.2

pub visit-requires : goal.visit-requires
visit-requires c = record { laid = c.requires.laid; there = c.loop-v-test.true; state = c.loop-v.invariant.state; leading = swept-leading _ _ _ _ _ _ c.loop-v.invariant }

pub loop-v-preserved : goal.loop-v-preserved
loop-v-preserved c = swept_step _ _ _ _ _ _ _ _ _ _ c.loop-v.invariant c.visit.ensures

pub returns : goal.returns
returns c =
    let done : c.loop-v.v ≡ c.args.links.now.n = omega arith in rw done at c.loop-v.invariant
