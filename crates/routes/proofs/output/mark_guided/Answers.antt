use Rattle.std.proofs.Common.{sym}
use Rattle.std.proofs.Math.Seq.{length-take-le}
use Rattle.std.proofs.Math.ListN.{replicate}
use Rattle.paper.specs.Net.{mark-guided}
use Rattle.tables.specs.Lent.{lent_tables}
use Rattle.paper.proofs.Sizes.{sized-facts}
use Rattle.order.proofs.Sweeps.{clean-new}
use Rattle.routes.proofs.Planned.{front-is, over-fits, can-ask, asked-front}
use Rattle.routes.proofs.Marked.{upward, clean-markable, marks-are, marks-long}
use Rattle.routes.proofs.Guided.{guides-marked, routed}
use Rattle.routes.proofs.output.mark_guided.Goals as goal

-- no mark is set in the new row
pub mark_moved-requires-clause-upward : goal.mark_moved-requires-clause-upward
mark_moved-requires-clause-upward c =
    let t = lent_tables c.args.tables.now in
    upward t c.requires.ended.sound _ _ c.requires.index c.requires.ended.chains

pub mark_moved-requires-clause-markable : goal.mark_moved-requires-clause-markable
mark_moved-requires-clause-markable c =
    let t = lent_tables c.args.tables.now in
    clean-markable t c.requires.ended.sound _ _ c.requires.index _ (clean-new c.args.tables.now.n 4096 (sized-facts t c.requires.ended.sound.sized).n-most)

pub plan_work-requires : goal.plan_work-requires
plan_work-requires c =
    let t = lent_tables c.args.tables.now in
    let few = (sized-facts t c.requires.ended.sound.sized).n-most in
    (c.requires.makers.long, marks-long t c.requires.ended.sound _ _ c.requires.index _ _ _ _ c.requires.begun c.requires.named _ _ (clean-new c.args.tables.now.n 4096 few) c.mark_moved.ensures, few)

pub slice_bounds-work-end : goal.slice_bounds-work-end
slice_bounds-work-end c =
    let t = lent_tables c.args.tables.now in
    over-fits c.args.tables.now.n _ _ _ c.plan_work.ensures (sized-facts t c.requires.ended.sound.sized).n-most

pub slice_bounds-ask_all-end : goal.slice_bounds-ask_all-end
slice_bounds-ask_all-end c =
    let t = lent_tables c.args.tables.now in
    sym (length-take-le c.args.tables.now.n _ (over-fits c.args.tables.now.n _ _ _ c.plan_work.ensures (sized-facts t c.requires.ended.sound.sized).n-most))

pub ask_all-requires-clause-workable : goal.ask_all-requires-clause-workable
ask_all-requires-clause-workable c =
    let t = lent_tables c.args.tables.now in
    let front = front-is t c.args.by.now c.requires.makers c.mark_moved.new.marks (replicate 4096 0) c.plan_work.new.work c.plan_work.ensures in
    (can-ask t c.requires.ended c.mark_moved.new.marks c.plan_work.new.work front c.args.asked.now c.args.stored.now c.args.trial.now c.args.flags.now c.requires.begun c.requires.asked).0

pub ask_all-requires-clause-there : goal.ask_all-requires-clause-there
ask_all-requires-clause-there c =
    let t = lent_tables c.args.tables.now in
    let front = front-is t c.args.by.now c.requires.makers c.mark_moved.new.marks (replicate 4096 0) c.plan_work.new.work c.plan_work.ensures in
    (can-ask t c.requires.ended c.mark_moved.new.marks c.plan_work.new.work front c.args.asked.now c.args.stored.now c.args.trial.now c.args.flags.now c.requires.begun c.requires.asked).1.0

pub ask_all-requires-clause-ready : goal.ask_all-requires-clause-ready
ask_all-requires-clause-ready c =
    let t = lent_tables c.args.tables.now in
    let front = front-is t c.args.by.now c.requires.makers c.mark_moved.new.marks (replicate 4096 0) c.plan_work.new.work c.plan_work.ensures in
    (can-ask t c.requires.ended c.mark_moved.new.marks c.plan_work.new.work front c.args.asked.now c.args.stored.now c.args.trial.now c.args.flags.now c.requires.begun c.requires.asked).1.1

pub returns : goal.returns
returns c =
    let t = lent_tables c.args.tables.now in
    let few = (sized-facts t c.requires.ended.sound.sized).n-most in
    let marks = c.mark_moved.new.marks in
    let front = front-is t c.args.by.now c.requires.makers marks (replicate 4096 0) c.plan_work.new.work c.plan_work.ensures in
    let are = marks-are t c.requires.ended.sound _ _ c.requires.index _ _ _ _ c.requires.begun c.requires.named _ marks (clean-new c.args.tables.now.n 4096 few) c.mark_moved.ensures in
    routed t c.requires.ended marks mark-guided c.args.stored.now c.args.trial.now c.args.flags.now c.args.asked.now c.requires.begun
    (guides-marked t c.args.stored.now c.args.trial.now marks are) _ _
    (asked-front t c.requires.ended marks c.plan_work.new.work front c.args.asked.now c.args.trial.now c.args.flags.now _ _ c.ask_all.ensures)
