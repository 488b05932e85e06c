use Rattle.std.proofs.Common.{arith, take}
use Rattle.tables.specs.Lent.{lent_tables}
use Rattle.routes.specs.Work.{work_net}
use Rattle.routes.proofs.Asks.{lawful-work}
use Rattle.routes.proofs.Planned.{rows_of}
use Rattle.choices.proofs.Whole.{makers-long, laid}
use Rattle.choices.proofs.Sweeps.{swept_step, swept-end, swept-followed}
use Rattle.choices.proofs.follow_choices.Goals as goal

pub visit-requires-clause-laid : goal.visit-requires-clause-laid
visit-requires-clause-laid c =
    let t = lent_tables c.args.tables.now in
    laid t c.requires.sound c.args.by.now c.requires.makers

pub loop-v-preserved : goal.loop-v-preserved
loop-v-preserved c =
    let t = lent_tables c.args.tables.now in
    swept_step (work_net (rows_of t) (take c.args.tables.now.n c.args.by.now)) (lawful-work (rows_of t) (take c.args.tables.now.n c.args.by.now)) _ c.loop-v.invariant c.visit.ensures

pub returns : goal.returns
returns c =
    let t = lent_tables c.args.tables.now in
    swept-followed t c.requires.sound c.args.by.now c.requires.makers _ _ _ c.requires.room
    (swept-end (work_net (rows_of t) (take c.args.tables.now.n c.args.by.now)) (lawful-work (rows_of t) (take c.args.tables.now.n c.args.by.now)) _ (omega (arith, makers-long t c.requires.sound c.args.by.now c.requires.makers, c.loop-v-test.false)) c.loop-v.invariant)
