use Rattle.routes.specs.Work.{rows_lent}
use Rattle.routes.proofs.Asks.{asking-ready}
use Rattle.routes.proofs.InTurn.{list-next, list-end}
use Rattle.routes.proofs.ask.ask_all.Goals as goal

pub value_of_variable-requires-clause-ready : goal.value_of_variable-requires-clause-ready
value_of_variable-requires-clause-ready c =
    asking-ready (rows_lent c.args.tables.now) c.args.work.now c.requires.workable _ _ _ _ _ _ c.loop-v.invariant c.requires.ready

pub loop-v-preserved : goal.loop-v-preserved
loop-v-preserved c =
    list-next (rows_lent c.args.tables.now) c.args.work.now c.args.asked.now _ _ c.requires.workable c.loop-v.v-index _ _ c.loop-v.invariant c.loop-v-test.true _ _ _ c.wide.ensures.0 c.value_of_variable.ensures.asked

pub returns : goal.returns
returns c =
    list-end (rows_lent c.args.tables.now) c.args.work.now c.args.asked.now _ _ c.requires.workable c.loop-v.v-index _ _ c.loop-v.invariant c.loop-v-test.false
