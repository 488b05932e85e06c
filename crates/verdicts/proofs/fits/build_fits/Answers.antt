-- `sizes` has tested the tables and the start values; the three rows to fill, the index, the log, the bounds and the reasons are tested here. Assumes nothing.
use Rattle.std.proofs.Common.{[], ◌∷◌, ◌∙◌, leb, length}
use Rattle.tables.proofs.Tests.{joined}
use Rattle.verdicts.proofs.Lengths.{tests}
use Rattle.verdicts.proofs.fits.build_fits.Goals as goal

pub returns : goal.returns
returns c =
    let a = c.args in let t = a.tables.now in
    (λ i. joined (c.sizes.ensures i) (
    leb t.n (length a.numbers.now) ∷ leb t.m (length a.order.now) ∷ leb t.n (length a.stored.now) ∷ c.index_fits.ensures i ∷ leb 65 (length a.log_sizes.now)
    ∷ c.bounds_fit.ensures i ∷ c.reasons_fit.ensures i ∷ []))
    ∙ tests _ (_ ∷ _ ∷ _ ∷ _ ∷ _ ∷ _ ∷ _ ∷ _ ∷ [])
