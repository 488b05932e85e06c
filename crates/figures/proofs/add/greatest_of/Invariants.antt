-- The choice between two that have a value. Assumes nothing.
use Rattle.paper.specs.Formula.{greater}
use Rattle.figures.proofs.add.greatest_of.Given as goal

abbrev pub ghost-one_of : goal.ghost-one_of
ghost-one_of a = greater
