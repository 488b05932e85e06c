-- What the walk planned can be asked, and leaves what route 3 leaves; astray is only what it listed (`Guiding`). Assumes nothing.
use Rattle.std.proofs.Common.{arith}
use Rattle.tables.specs.Lent.{lent_tables}
use Rattle.probes.proofs.Guiding.{can-touch, can, guided, astray}
use Rattle.probes.proofs.guide.guide.Goals as goal

pub touch_moved-count-requires-clause-upward : goal.touch_moved-count-requires-clause-upward
touch_moved-count-requires-clause-upward c =
    let t = lent_tables c.args.tables.now in let r = c.requires in
    (can-touch t r.ended c.args.index.now.starts.now c.args.index.now.places.now r.index c.args.stored.now c.args.trial.now c.args.flags.now c.args.moves.now c.args.asked.now r.begun r.named r.asked c.args.by.now r.makers c.args.marks.now c.args.work.now r.unmarked c.args.touched.now r.list).0

pub touch_moved-count-requires-clause-noted : goal.touch_moved-count-requires-clause-noted
touch_moved-count-requires-clause-noted c =
    let t = lent_tables c.args.tables.now in let r = c.requires in
    (can-touch t r.ended c.args.index.now.starts.now c.args.index.now.places.now r.index c.args.stored.now c.args.trial.now c.args.flags.now c.args.moves.now c.args.asked.now r.begun r.named r.asked c.args.by.now r.makers c.args.marks.now c.args.work.now r.unmarked c.args.touched.now r.list).1.1.1

pub ask_all-requires-clause-workable : goal.ask_all-requires-clause-workable
ask_all-requires-clause-workable c =
    let t = lent_tables c.args.tables.now in let r = c.requires in
    (can t r.ended c.args.index.now.starts.now c.args.index.now.places.now r.index c.args.stored.now c.args.trial.now c.args.flags.now c.args.moves.now c.args.asked.now r.begun r.named r.asked c.args.by.now r.makers c.args.marks.now c.args.work.now r.unmarked c.touch_moved-count.new.marks c.touch_moved-count.new.work c.touch_moved-count.new.touched c.touch_moved-count.result c.touch_moved-count.ensures.marked c.touch_moved-count.ensures.noted).0

pub ask_all-requires-clause-ready : goal.ask_all-requires-clause-ready
ask_all-requires-clause-ready c =
    let t = lent_tables c.args.tables.now in let r = c.requires in
    (can t r.ended c.args.index.now.starts.now c.args.index.now.places.now r.index c.args.stored.now c.args.trial.now c.args.flags.now c.args.moves.now c.args.asked.now r.begun r.named r.asked c.args.by.now r.makers c.args.marks.now c.args.work.now r.unmarked c.touch_moved-count.new.marks c.touch_moved-count.new.work c.touch_moved-count.new.touched c.touch_moved-count.result c.touch_moved-count.ensures.marked c.touch_moved-count.ensures.noted).1.1

pub returns-clause-routed : goal.returns-clause-routed
returns-clause-routed c =
    let t = lent_tables c.args.tables.now in let r = c.requires in
    (guided t r.ended c.args.index.now.starts.now c.args.index.now.places.now r.index c.args.stored.now c.args.trial.now c.args.flags.now c.args.moves.now c.args.asked.now r.begun r.named r.asked c.args.by.now r.makers c.args.marks.now c.args.work.now r.unmarked c.touch_moved-count.new.marks c.touch_moved-count.new.work c.touch_moved-count.new.touched c.touch_moved-count.result c.touch_moved-count.ensures.marked c.touch_moved-count.ensures.noted c.ask_all.new.trial c.ask_all.new.flags c.ask_all.ensures)

pub returns-clause-astray : goal.returns-clause-astray
returns-clause-astray c =
    let t = lent_tables c.args.tables.now in let r = c.requires in
    astray t r.ended c.args.index.now.starts.now c.args.index.now.places.now r.index c.args.stored.now c.args.trial.now c.args.flags.now c.args.moves.now c.args.asked.now r.begun r.named r.asked c.args.by.now r.makers c.args.marks.now c.args.work.now r.unmarked c.touch_moved-count.new.marks c.touch_moved-count.new.work c.touch_moved-count.new.touched c.touch_moved-count.result c.touch_moved-count.ensures.marked c.touch_moved-count.ensures.noted c.ask_all.new.trial c.ask_all.new.flags c.ask_all.ensures (omega (arith, r.begun.in-trial, c.ask_all.auto.trial)) (omega (arith, r.begun.in-flags, c.ask_all.auto.flags))
    (omega (arith, r.unmarked.in-marks, c.touch_moved-count.auto.marks))
