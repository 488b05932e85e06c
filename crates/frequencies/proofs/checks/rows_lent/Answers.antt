-- The tests are those of `rows_lent`, in its order. Assumes nothing.
use mathlib.Core.Bool.{and-true}
use mathlib.Core.Path.{refl}
use Rattle.paper.specs.Lists.{every}
use Rattle.frequencies.proofs.checks.rows_lent.Goals as goal

pub returns : goal.returns
unfolding every
returns c = simp and-true refl
