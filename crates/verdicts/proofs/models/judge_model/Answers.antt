-- Short of check 1 the answer is its refusal, and past it that of the model's checks. Assumes nothing.
use Rattle.std.proofs.Common.{sym, arith}
use Rattle.tables.specs.Lent.{lent_model}
use Rattle.verdicts.proofs.ModelJudging.{model-fitting}
use Rattle.verdicts.proofs.models.judge_model.Goals as goal

pub model_checks-requires-clause-n_in_bounds : goal.model_checks-requires-clause-n_in_bounds
model_checks-requires-clause-n_in_bounds c =
    omega (arith, (model-fitting (lent_model c.args.model.now) c.args.blanks (sym c.if-not-model_fits.ensures)).held.n-most, c.requires.room)
