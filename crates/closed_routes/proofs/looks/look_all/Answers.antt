use Rattle.closed_routes.specs.Looking.{shapes_lent}
use Rattle.closed_routes.proofs.InTurn.{list-next, list-end}
use Rattle.closed_routes.proofs.looks.look_all.Goals as goal

pub loop-v-preserved : goal.loop-v-preserved
loop-v-preserved c =
    list-next (shapes_lent c.args.tables.now) _ c.args.values.now c.args.asked.now _ c.loop-v.v-index _ c.loop-v.invariant c.loop-v-test.true
    _ _ c.wide.ensures.0 c.look.ensures

pub returns : goal.returns
returns c =
    list-end (shapes_lent c.args.tables.now) _ c.args.values.now c.args.asked.now _ c.loop-v.v-index _ c.loop-v.invariant c.loop-v-test.false
