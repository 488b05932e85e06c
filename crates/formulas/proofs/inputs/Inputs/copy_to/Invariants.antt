-- The places passed hold their inputs, the others what they held (`Filled`). Assumes nothing.
use Rattle.paper.specs.Formula.{input_at}
use Rattle.paper.proofs.Buffers.{Filled}
use Rattle.formulas.specs.Given.{inputs_of}
use Rattle.formulas.proofs.inputs.Inputs.copy_to.Given as goal

abbrev pub invariant-loop-i : goal.invariant-loop-i
invariant-loop-i l = Filled (λ k. input_at (inputs_of l.self) k) l.initial.held l.held l.i
