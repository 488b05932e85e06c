-- The greatest of that part, and then the test. Assumes nothing.
use mathlib.Core.Path.{ap, ◌∙◌}
use lib.Dec.{ltb}
use Rattle.tables.proofs.shape.all_known.Goals as goal

pub returns : goal.returns
returns c =
    let a = c.args in
    ap (λ g. ltb g a.n) (c.wide.ensures.0 ∙ c.greatest_of.ensures)
