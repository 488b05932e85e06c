-- A headway of 0 is none (`headway-said`). Assumes nothing.
use mathlib.Core.Bool.{cond}
use mathlib.Core.Path.{ap, sym, ◌∙◌}
use mir.Syntax.{w32}
use mir.Facts.{to_z-of_z}
use borrow.Author.Rules.{sfits_of}
use Rattle.paper.specs.Lists.{all}
use Rattle.paper.specs.Formula.{blank}
use Rattle.frequencies.specs.Values.{is_digit, number, headway}
use Rattle.frequencies.specs.Told.{value_said}
use Rattle.frequencies.proofs.Told.{headway-said}
use Rattle.frequencies.proofs.values.headway_of.Goals as goal

pub returns-then-eq : goal.returns-then-eq
unfolding headway
returns-then-eq c =
    let bs = c.args.bytes.now in let n = c.number_of-said in
    ap (λ b. cond b blank (value_said n.result)) (sym c.if-eq.true ∙ c.eq.ensures) ∙ headway-said (all is_digit bs) (number bs) n.result n.ensures

pub returns : goal.returns
unfolding headway
returns c =
    let bs = c.args.bytes.now in let n = c.number_of-said in
    to_z-of_z {w = w32} (sfits_of c.as_value.type_inv) ∙ c.as_value.ensures
    ∙ ap (λ b. cond b blank (value_said n.result)) (sym c.if-eq.false ∙ c.eq.ensures) ∙ headway-said (all is_digit bs) (number bs) n.result n.ensures
