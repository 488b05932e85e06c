-- Some input is blank exactly if the number of places that hold blank is above 0. Assumes nothing.
use mathlib.Core.Path.{sym, ◌∙◌, ap}
use lib.Dec.{ltb}
use Rattle.integers.specs.Integers.{eq_z}
use Rattle.paper.specs.Formula.{blank}
use Rattle.formulas.specs.Given.{inputs_of}
use Rattle.formulas.proofs.Counting.{any-tally}
use Rattle.formulas.proofs.inputs.Inputs.any_blank.Goals as goal

pub returns : goal.returns
returns c = ap (ltb 0) c.places.ensures ∙ sym (any-tally (λ x. eq_z x blank) (inputs_of c.args.self))
