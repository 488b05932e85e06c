-- The tests are those of `keep_fits`, in its order. Assumes nothing.
use Rattle.std.proofs.Common.{[], ◌∷◌, ◌∙◌, leb, length}
use Rattle.tables.proofs.Tests.{joined, joined-every}
use Rattle.verdicts.proofs.fits.keep_fits.Goals as goal

pub returns : goal.returns
returns c =
    let a = c.args in
    (λ i. joined (c.model_fits.ensures i) (c.move_sizes.ensures i ∷ leb a.model.now.tables.n (length a.flags.now) ∷ c.log_fits.ensures i ∷ []))
    ∙ joined-every _ (_ ∷ _ ∷ _ ∷ [])
