-- Each arm gives what the definition has for its kind, and the last arm what it has for the kinds that have no sentence of their own. Assumes nothing.
use native.Mathlib.Omega.{arith}
use mathlib.Core.Logic.{inl, inr}
use mathlib.Core.Path.{◌∙◌}
use Rattle.paper.specs.Reason.{why}
use Rattle.formulas.specs.Given.{inputs_of}
use Rattle.whys.proofs.Tests.{of-extremes, of_others}
use Rattle.whys.proofs.why.Goals.{in_default-via-then-kind-lt2, in_default-via-else-kind-lt2+else-kind-lt4}
use Rattle.whys.proofs.why.Goals as goal

pub returns-in-4 : goal.returns-in-4
unfolding why
returns-in-4 c = simp c.in-4.is c.of_element.ensures

pub returns-in-8 : goal.returns-in-8
unfolding why
returns-in-8 c = simp c.in-8.is c.of_departures.ensures

pub returns-in-9 : goal.returns-in-9
unfolding why
returns-in-9 c = simp c.in-9.is c.of_last.ensures

pub returns-in-2 : goal.returns-in-2
returns-in-2 c = (simp c.all_blank.ensures at c.of_inputs.ensures) ∙ of-extremes c.args.kind (inputs_of c.args.row) (omega arith) (omega arith)

pub returns-in_default : goal.returns-in_default
returns-in_default c =
    (simp c.any_blank.ensures at c.of_inputs-in_default.ensures)
    ∙ of_others c.args.kind (inputs_of c.args.row)
    (elim c.in_default.branch [ in_default-via-then-kind-lt2 w ↦ inl (omega arith) | in_default-via-else-kind-lt2+else-kind-lt4 w ↦ inr (omega arith) ])
    (λ e. omega arith) (λ e. omega arith) (λ e. omega arith)
