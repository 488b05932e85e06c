-- Short of the test nothing is written; past it the model is judged once and all moves are tried. Assumes nothing.
use Rattle.std.proofs.Common.{Err, ap, sym}
use Rattle.trials.specs.Batch.{batch_lent}
use Rattle.trials.specs.Trials.{question_of, rows_in}
use Rattle.trials.proofs.Called.{trials-refused, trials-accepted}
use Rattle.trials.proofs.batch.trials.Goals as goal

pub returns-then-not-rows_fit : goal.returns-then-not-rows_fit
returns-then-not-rows_fit c =
    let a = c.args in
    let rows = rows_in a.move_numbers.now a.move_places.now a.move_evaluations.now a.results.now a.why.now in
    trials-refused (batch_lent a.batch.now) (question_of a.asked.now) rows _ _ (sym c.if-not-rows_fit.ensures) (Err c.refused.result) (ap Err c.refused.ensures)

pub returns : goal.returns
returns c =
    let a = c.args in
    let rows = rows_in a.move_numbers.now a.move_places.now a.move_evaluations.now a.results.now a.why.now in
    trials-accepted (batch_lent a.batch.now) (question_of a.asked.now) rows _ _ (sym c.if-not-rows_fit.ensures) _ _ c.try_each.ensures.told c.try_each.ensures.filled
