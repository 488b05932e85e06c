-- What a move from one version to the other answers, in numbers: they say the same. Assumes nothing.
use Prim.Native.Nat.{ℕ}
use mathlib.Core.List.{List}
use mathlib.Core.Path.{◌≡◌, refl, ap, ◌∙◌}
use Rattle.paper.specs.Checks.{Verdict}
use Rattle.files.specs.MoveAnswers.{has_converted}
use Rattle.std.specs.Prelude.{Result, Ok, Err}
use Rattle.tables.specs.declared.Refusal.{Refusal}
use Rattle.capi.specs.declared.MoveOutcome.{MoveOutcome}
use Rattle.capi.specs.Outcomes.{move_in_numbers}
use Rattle.capi.specs.Outcomes as outcomes

pub moved_out : {r : MoveOutcome} (told : Result ℕ Refusal) (file : List ℕ) {left : Verdict × (ℕ × List ℕ)} → r ≡ move_in_numbers told → has_converted told file ≡ left → (r, file) ≡ outcomes.moved_out left
moved_out told file e f = ap (λ (x : MoveOutcome). (x, file)) e ∙ same told ∙ ap outcomes.moved_out f
  where
    same : (told : Result ℕ Refusal) → (move_in_numbers told, file) ≡ outcomes.moved_out (has_converted told file)
    same (Ok length) = refl
    same (Err r) = refl
