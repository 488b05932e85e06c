-- Without a maker the kind read is 0, which is no ELEMENT. Assumes nothing.
use mathlib.Core.Path.{ap}
use lib.Dec.{eqb}
use Rattle.chains.proofs.links.by_element.Goals as goal

pub returns : goal.returns
returns c = ap (λ k. eqb k 4) c.of_maker.ensures
