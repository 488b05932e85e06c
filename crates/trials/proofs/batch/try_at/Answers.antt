-- The parts of both rows come back to their places as the trial left them (`given-at`). Assumes nothing.
use Rattle.std.proofs.Common.{◌≡◌, ◌+◌, ◌-◌, arith}
use Rattle.tables.specs.Lent.{lent_model, lent_move}
use Rattle.records.specs.Left.{record_in}
use Rattle.trials.specs.Trials.{question_of}
use Rattle.trials.proofs.Scratch.{given-at}
use Rattle.trials.proofs.batch.try_at.Goals as goal

pub returns : goal.returns
returns c =
    let a = c.args in
    let z : (a.at + a.asked.now.count) - a.at ≡ a.asked.now.count = omega arith in
    given-at (record_in a.session) (lent_model a.model.now) (question_of a.asked.now) (lent_move a.mv.now) a.at a.results.now a.why.now
    _ _ z _ _ c.try_given.ensures
