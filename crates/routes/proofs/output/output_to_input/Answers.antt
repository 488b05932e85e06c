use Rattle.std.proofs.Math.ListN.{replicate}
use Rattle.paper.specs.Net.{output-to-input}
use Rattle.tables.specs.Lent.{lent_tables}
use Rattle.paper.proofs.Sizes.{sized-facts}
use Rattle.routes.proofs.Planned.{front-all, can-ask, asked-front}
use Rattle.routes.proofs.Guided.{guides-all, routed}
use Rattle.routes.proofs.output.output_to_input.Goals as goal

-- the row of work is that of the makers, where every variable is marked
pub ask_all-requires-clause-workable : goal.ask_all-requires-clause-workable
ask_all-requires-clause-workable c =
    let t = lent_tables c.args.tables.now in
    let front = front-all t c.args.by.now c.requires.makers (sized-facts t c.requires.ended.sound.sized).n-most in
    (can-ask t c.requires.ended (replicate 4096 1) _ front c.args.asked.now _ _ _ c.requires.begun c.requires.asked).0

pub ask_all-requires-clause-ready : goal.ask_all-requires-clause-ready
ask_all-requires-clause-ready c =
    let t = lent_tables c.args.tables.now in
    let front = front-all t c.args.by.now c.requires.makers (sized-facts t c.requires.ended.sound.sized).n-most in
    (can-ask t c.requires.ended (replicate 4096 1) _ front c.args.asked.now _ _ _ c.requires.begun c.requires.asked).1.1

pub returns : goal.returns
returns c =
    let t = lent_tables c.args.tables.now in
    let front = front-all t c.args.by.now c.requires.makers (sized-facts t c.requires.ended.sound.sized).n-most in
    routed t c.requires.ended (replicate 4096 1) output-to-input c.args.stored.now c.args.trial.now c.args.flags.now c.args.asked.now c.requires.begun
    (guides-all t c.requires.ended c.args.stored.now c.args.trial.now) _ _
    (asked-front t c.requires.ended (replicate 4096 1) _ front c.args.asked.now _ _ _ _ c.ask_all.ensures)
