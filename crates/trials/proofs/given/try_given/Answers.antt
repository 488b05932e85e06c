-- Of the rows for values and flags only the lengths play a part (`given_by`). Assumes nothing.
use Rattle.tables.specs.Lent.{lent_model, lent_move}
use Rattle.records.specs.Left.{record_in}
use Rattle.trials.specs.Trials.{question_of}
use Rattle.trials.proofs.Scratch.{given_by}
use Rattle.trials.proofs.given.try_given.Goals as goal

pub returns : goal.returns
returns c =
    let a = c.args in
    given_by (record_in a.session) (lent_model a.model.now) (question_of a.asked.now) (lent_move a.mv.now) a.results.now a.why.now
    a.trial.now a.flags.now c.requires.rows.0 c.requires.rows.1 _ _ _ _ _ c.try_judged-done.ensures
