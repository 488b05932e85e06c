-- The inputs that a row is given as. Assumes nothing.
use Rattle.std.specs.Prelude.{List, ℤ}
use Rattle.formulas.specs.Inputs.{inputs}
use Rattle.formulas.specs.declared.inputs.Inputs as code

abbrev pub inputs_of : code.Inputs → List ℤ
inputs_of row = inputs row.vars.now row.values.now
