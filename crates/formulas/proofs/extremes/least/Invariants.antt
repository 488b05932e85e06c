-- What is left of the inputs passed and those from i on leave what all the inputs leave. Assumes nothing.
use Rattle.std.specs.Prelude.{◌+◌, false}
use Rattle.formulas.proofs.Skipping.{Left}
use Rattle.formulas.proofs.extremes.least.Given as goal

abbrev pub invariant-loop-v : goal.invariant-loop-v
invariant-loop-v l = Left false l.row.vars.now l.row.values.now (l.v-index + 1) l.left
