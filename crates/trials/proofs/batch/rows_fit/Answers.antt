-- Few moves and variables make a product that fits, and then all tests are made. Assumes nothing.
use Rattle.trials.specs.Batch.{batch_lent}
use Rattle.trials.specs.Trials.{question_of, rows_in}
use Rattle.trials.proofs.Called.{fit-few, fit-roomy}
use Rattle.trials.proofs.batch.rows_fit.Goals as goal

pub returns-then-not-few : goal.returns-then-not-few
returns-then-not-few c =
    let a = c.args in
    fit-few (batch_lent a.batch.now) (question_of a.asked.now) (rows_in a.move_numbers.now a.move_places.now a.move_evaluations.now a.results.now a.why.now) c.if-not-few.true

pub returns : goal.returns
returns c =
    let a = c.args in
    fit-roomy (batch_lent a.batch.now) (question_of a.asked.now) (rows_in a.move_numbers.now a.move_places.now a.move_evaluations.now a.results.now a.why.now) c.if-not-few.false
