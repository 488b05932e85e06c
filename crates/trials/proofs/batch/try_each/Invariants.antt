-- What is filled in, and what the moves that are left will be given, are what all are given (`Going`). Assumes nothing.
use Rattle.tables.specs.Lent.{lent_model}
use Rattle.records.specs.Left.{record_in}
use Rattle.trials.specs.Batch.{batch_lent}
use Rattle.trials.specs.Trials.{question_of, rows_in}
use Rattle.trials.proofs.Going.{Fitting, Going}
use Rattle.trials.proofs.batch.try_each.Given as goal

abbrev pub invariant-loop-i : goal.invariant-loop-i
invariant-loop-i l = record {
  fit : Fitting (batch_lent l.batch) (question_of l.asked)
      (rows_in l.initial.move_numbers l.initial.move_places l.initial.move_evaluations l.initial.results l.initial.why);
  going : Going (record_in l.session) (lent_model l.model) (batch_lent l.batch) (question_of l.asked)
      (rows_in l.initial.move_numbers l.initial.move_places l.initial.move_evaluations l.initial.results l.initial.why)
      (rows_in l.move_numbers l.move_places l.move_evaluations l.results l.why)
      l.evaluations l.first l.at l.i;
}
