-- The tests are those of `move_own_fits`, in its order. Assumes nothing.
use Rattle.std.proofs.Common.{[], ◌∷◌, ◌∙◌, leb, length}
use Rattle.tables.proofs.Tests.{joined, joined-every}
use Rattle.verdicts.proofs.fits.move_fits.Goals as goal

pub returns : goal.returns
returns c =
    let a = c.args in let x = a.asked.now in
    (λ i. joined (c.move_sizes.ensures i) (
    leb x.count 32 ∷ leb x.count (length x.vars.now) ∷ leb x.count (length a.results.now) ∷ leb a.n (length a.trial.now)
    ∷ leb a.n (length a.flags.now) ∷ leb x.count (length a.why.now) ∷ []))
    ∙ joined-every _ (_ ∷ _ ∷ _ ∷ _ ∷ _ ∷ _ ∷ [])
