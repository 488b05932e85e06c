-- What a trial of one move comes to: the engine's number, which is below 22, and evaluations of at most all variables. Assumes nothing.
use Prim.Native.Nat.{ℕ, ◌≤◌, ◌<◌}
use mathlib.Core.List.{List, [], ◌∷◌}
use mathlib.Core.Path.{◌≡◌, ap, ◌∙◌}
use lib.IntN.{ℤ, pos}
use lib.ListN.{get_or}
use Rattle.paper.specs.Checks.{Move}
use Rattle.paper.specs.Calls.{Session, number_of, evaluations_of, Model}
use Rattle.std.specs.Prelude.{Result}
use Rattle.tables.specs.declared.Refusal as answer
use Rattle.records.specs.Left.{answer_in}
use Rattle.trials.specs.Trials.{question, Given}
use Rattle.trials.proofs.Low.{number-low, evaluations-low}
use Rattle.figures.specs.Outcomes.{tried_once, outcome}
use Rattle.figures.specs.declared.outcomes.Tried as code

-- ── of one move ──
module _ (s : Session) (w : Model) (asked route : ℕ) (mv : Move) where
  pub tried-low : ((tried_once s w asked route mv).number < 22) × ((tried_once s w asked route mv).evaluations ≤ 4096)
  unfolding tried_once
  tried-low = (number-low s w _, evaluations-low s w _)

  -- what the move is given by one question is what was tried
  pub tried-is : (r : code.Tried) (a : Result ℕ answer.Refusal) (results : List ℤ) (why : List ℕ) → Given s w (question 1 (asked ∷ []) route) mv (pos 0 ∷ []) (0 ∷ []) a results why
      → r.number ≡ number_of (answer_in a) → r.evaluations ≡ evaluations_of (answer_in a) → r.result ≡ get_or results 0 (pos 0) → r ≡ tried_once s w asked route mv
  unfolding tried_once
  tried-is r a results why g p q y =
      λ i. record { number = (p ∙ ap number_of g.answer) i; evaluations = (q ∙ ap evaluations_of g.answer) i; result = (y ∙ ap (λ (l : List ℤ). get_or l 0 (pos 0)) g.results-are) i }

-- ── by each route ──
pub outcome-is : (s : Session) (w : Model) (asked : ℕ) (mv : Move) (a b c : code.Tried) → a ≡ tried_once s w asked 1 mv → b ≡ tried_once s w asked 2 mv → c ≡ tried_once s w asked 3 mv
    → record { number = a.number; result = a.result; first = a.evaluations; second = b.evaluations; third = c.evaluations } ≡ outcome s w asked mv
outcome-is s w asked mv a b c p q r =
    λ i. record { number = (p i).number; result = (p i).result; first = (p i).evaluations; second = (q i).evaluations; third = (r i).evaluations }
