use native.Mathlib.Omega.{arith}
use mathlib.Core.Path.{◌∙◌}
use borrow.Author.Rules.{rules}
use lib.IntN.{pos}
use lib.ListN.{get_or}
use mir.Syntax.{w32}
use mir.Val.{SFits}
use mir.Facts.{to_z-of_z}
use Rattle.paper.proofs.Buffers.{filled_next}
use Rattle.formulas.proofs.Reading.{copied, this-input}
use Rattle.formulas.proofs.inputs.Inputs.copy_to.Goals as goal

pub loop-i-preserved : goal.loop-i-preserved
loop-i-preserved c =
    let vars = c.args.self.vars.now in let values = c.args.self.values.now in let l = c.loop-i in let long = l.invariant.long in
    let f : SFits w32 (get_or values c.from.result (pos 0)) = search rules in
    filled_next _ _ _ _ l.invariant (omega arith) (to_z-of_z f ∙ this-input vars values l.i c.from.result (omega arith) c.from.ensures)

pub returns : goal.returns
returns c = copied c.args.self.vars.now c.args.self.values.now c.loop-i.invariant (omega arith)
