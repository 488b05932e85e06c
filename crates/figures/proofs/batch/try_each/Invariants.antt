-- What was counted and added, and the figures of the moves that are left, are those of all (`Going`). Assumes nothing.
use Rattle.std.proofs.Common.{◌≡◌, length}
use Rattle.tables.specs.Lent.{lent_model}
use Rattle.records.specs.Left.{record_in}
use Rattle.trials.specs.Batch.{batch_lent}
use Rattle.figures.proofs.Going.{Going}
use Rattle.figures.proofs.batch.try_each.Given as goal

abbrev pub invariant-loop-lent : goal.invariant-loop-lent
invariant-loop-lent l = record {
  going : Going (record_in l.session) (lent_model l.model) l.asked (batch_lent l.batch) l.initial.by_number l.by_number l.totals l.at l.lent-index;
  trial_long : length l.trial ≡ 4096;
  flags_long : length l.flags ≡ 4096;
}
