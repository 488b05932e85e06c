-- The tests are those of `log_fits`, in its order. Assumes nothing.
use Rattle.std.proofs.Common.{[], ◌∷◌}
use Rattle.tables.proofs.Tests.{joined-every}
use Rattle.verdicts.proofs.fits.log_fits.Goals as goal

pub returns : goal.returns
returns c = joined-every _ (_ ∷ _ ∷ [])
