-- `sizes` has tested the tables and the stored values; the numbers, the order, the index, the bounds and the reasons are tested here. Assumes nothing.
use Rattle.std.proofs.Common.{[], ◌∷◌, ◌∙◌, leb, length}
use Rattle.tables.proofs.Tests.{joined}
use Rattle.verdicts.proofs.Lengths.{third-first}
use Rattle.verdicts.proofs.fits.model_fits.Goals as goal

pub returns : goal.returns
returns c =
    let w = c.args.model.now in let t = w.tables in
    (λ i. joined (c.sizes.ensures i) (
    leb t.n (length w.numbers.now) ∷ leb t.m (length w.order.now) ∷ c.index_fits.ensures i ∷ c.bounds_fit.ensures i ∷ c.reasons_fit.ensures i ∷ []))
    ∙ third-first _ _ _ _ (_ ∷ _ ∷ _ ∷ [])
