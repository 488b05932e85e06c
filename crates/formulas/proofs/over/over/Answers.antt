-- The two inputs are looked at, and handed on if none is blank. Assumes nothing.
use mathlib.Core.Bool.{◌||◌}
use mathlib.Core.Path.{◌≡◌, sym, ap, ap₂, ◌∙◌}
use mir.Syntax.{w32}
use Rattle.integers.specs.Integers.{eq_z}
use Rattle.integers.proofs.Bits.{told}
use Rattle.paper.specs.Formula.{blank, some_blank}
use Rattle.formulas.specs.Given.{inputs_of}
use Rattle.formulas.proofs.Reading.{two-blank}
use Rattle.formulas.proofs.over.over.Goals as goal

pub returns : goal.returns
returns c =
    let a = c.at-a in let b = c.at-b in let row = c.args.row in
    let test : (c.is_blank.result || c.is_blank-2.result) ≡ some_blank (inputs_of row) =
    ap₂ ◌||◌ (c.is_blank.ensures ∙ ap (λ x. eq_z x blank) (told w32 a.type_inv a.ensures)) (c.is_blank-2.ensures ∙ ap (λ x. eq_z x blank) (told w32 b.type_inv b.ensures))
    ∙ two-blank row.vars.now row.values.now c.requires in
    simp (sym test ∙ c.if-is_blank.false) (told w32 c.excess.type_inv (simp (told w32 a.type_inv a.ensures, told w32 b.type_inv b.ensures) at c.excess.ensures))
