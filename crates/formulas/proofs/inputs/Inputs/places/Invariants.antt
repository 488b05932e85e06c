-- The places passed that hold z, and those from i on, are all that hold it (`Passed`). Assumes nothing.
use Rattle.integers.specs.Integers.{eq_z}
use Rattle.formulas.specs.Given.{inputs_of}
use Rattle.formulas.proofs.Counting.{Passed}
use Rattle.formulas.proofs.inputs.Inputs.places.Given as goal

abbrev pub invariant-loop-v : goal.invariant-loop-v
invariant-loop-v l = Passed (λ x. eq_z x l.z) (inputs_of l.self) l.v-index l.n
