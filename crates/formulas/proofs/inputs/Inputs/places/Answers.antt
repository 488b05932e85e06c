-- A place adds at most one, and there are no more than the row has. Assumes nothing.
use native.Mathlib.Omega.{arith}
use mathlib.Core.Bool.{cond}
use mathlib.Core.Path.{ap, ◌∙◌}
use borrow.Author.Rules.{rules}
use lib.IntN.{pos}
use lib.ListN.{get_or}
use mir.Syntax.{w32}
use mir.Val.{SFits, to_z, of_z}
use Rattle.integers.specs.Integers.{eq_z}
use Rattle.paper.specs.Formula.{blank}
use Rattle.formulas.proofs.Reading.{inputs-length, this-input}
use Rattle.formulas.proofs.Counting.{passed-next, passed-most, one-most}
use Rattle.formulas.proofs.Pairs.{same_bits}
use Rattle.formulas.proofs.inputs.Inputs.places.Goals as goal

pub overflow_add-n : goal.overflow_add-n
overflow_add-n c = omega (arith, one-most _ c.one_if-n.ensures, passed-most c.loop-v.invariant, inputs-length c.args.self.vars.now c.args.self.values.now)

pub loop-v-preserved : goal.loop-v-preserved
loop-v-preserved c =
    let vars = c.args.self.vars.now in let values = c.args.self.values.now in let l = c.loop-v in let long = inputs-length vars values in
    let f : SFits w32 (get_or values c.from.result (pos 0)) = search rules in
    passed-next blank l.invariant (omega arith) (c.one_if-n.ensures
    ∙ ap (λ t. cond t 1 0) (same_bits _ _ f c.ranges.z ∙ ap (λ x. eq_z x (to_z w32 (of_z w32 c.args.z))) (this-input vars values l.v-index c.from.result (omega arith) c.from.ensures)))
