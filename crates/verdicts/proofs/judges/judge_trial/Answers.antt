-- What the move is lent is looked at before the model is, and stops it as it does over a judged model. Assumes nothing.
use Rattle.std.proofs.Common.{sym}
use Rattle.tables.specs.Lent.{lent_model}
use Rattle.verdicts.specs.Lent.{lent_to_try}
use Rattle.verdicts.proofs.JudgingTrials.{stops-unfit}
use Rattle.verdicts.proofs.judges.judge_trial.Goals as goal

pub returns-then-not-move_fits : goal.returns-then-not-move_fits
returns-then-not-move_fits c =
    let a = c.args in let w = lent_model a.model.now in
    let x = lent_to_try a.mv.now a.asked.now a.results.now a.trial.now a.flags.now a.why.now in
    stops-unfit a.blanks w x _ _ c.refused.ensures (sym c.if-not-move_fits.ensures)
