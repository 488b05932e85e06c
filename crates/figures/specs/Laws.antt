-- What holds of the figures: the order of the moves changes nothing, each route gives a move the same number, and they are read off what `trials` gives by each route.
-- `proofs/Order`, `proofs/Routes` and `proofs/Read` prove it. Assumes nothing.
use Rattle.std.specs.Prelude.{ℕ, true, List, [], ◌∷◌, ◌++◌, map, ◌≡◌, Result, ℤ, pos, length, get_or, replicate}
use Rattle.paper.specs.Lists.{between}
use Rattle.paper.specs.Checks.{Move}
use Rattle.paper.specs.Calls.{Session, Model, TrialLeft}
use Rattle.figures.specs.Outcomes.{tried_once}
use Rattle.trials.specs.Batch.{Batch}
use Rattle.trials.specs.Trials.{question, tries, number_given, evaluations_given}
use Rattle.figures.specs.Figures.{moves_of, outcomes, figures}
use Rattle.figures.specs.declared.outcomes.Outcome.{Outcome}
use Rattle.tables.specs.declared.Refusal.{Refusal}
use Rattle.figures.specs.declared.Totals.{Totals}
pub use Rattle.trials.specs.Laws.{Rearranged}

-- ── the order of the moves ──
-- moves, each a list of pairs of a variable and its new value, as they are lent: one behind the other
abbrev pub laid_behind : {A : Type 0} → ((ℕ × ℤ) → A) → List (List (ℕ × ℤ)) → List A
laid_behind f [] = []
laid_behind f (mv ∷ moves) = map f mv ++ laid_behind f moves

abbrev pub as_batch : List (List (ℕ × ℤ)) → Batch
as_batch moves = record { moves = length moves; pairs = map length moves; vars = laid_behind (λ p. p.0) moves; values = laid_behind (λ p. p.1) moves }

abbrev pub OrderChangesNothing : Type 0
OrderChangesNothing =
    (s : Session) (w : Model) (asked : ℕ) (moves moves' : List (List (ℕ × ℤ))) → Rearranged moves moves'
    → (by_number : List ℕ) → figures s w asked (as_batch moves) by_number ≡ figures s w asked (as_batch moves') by_number

-- ── the routes ──
-- each route gives a move the same number, whatever is lent
abbrev pub SameNumber : Type 0
SameNumber = (s : Session) (w : Model) (asked : ℕ) (mv : Move) (r : ℕ) → between 1 r 3 ≡ true → (tried_once s w asked r mv).number ≡ (tried_once s w asked 1 mv).number

-- ── many moves in one call ──
-- the outcome of each move, read off what `trials` gives it by each of the three routes
abbrev pub outcomes_read : List TrialLeft → List TrialLeft → List TrialLeft → List Outcome
outcomes_read [] ys zs = []
outcomes_read (x ∷ xs) [] zs = []
outcomes_read (x ∷ xs) (y ∷ ys) [] = []
outcomes_read (x ∷ xs) (y ∷ ys) (z ∷ zs) =
    record { number = number_given x; result = get_or x.results 0 (pos 0); first = evaluations_given x; second = evaluations_given y; third = evaluations_given z } ∷ outcomes_read xs ys zs

-- what `trials` gives the moves with one variable asked by a route, into rows of 0
abbrev pub tried_by : Session → Model → ℕ → List Move → ℕ → List TrialLeft
tried_by s w asked mvs route = tries s w (question 1 (asked ∷ []) route) mvs (replicate (length mvs) (pos 0)) (replicate (length mvs) 0)

abbrev pub FoldOfTrials : Type 0
FoldOfTrials = (s : Session) (w : Model) (asked : ℕ) (b : Batch) → let by = tried_by s w asked (moves_of b) in outcomes s w asked b ≡ outcomes_read (by 1) (by 2) (by 3)

-- ── what a caller has at exit; `stated` is the contract's equation ──
pub record BatchHad (s : Session) (w : Model) (asked : ℕ) (b : Batch) (lent : List ℕ) : Type 0 where
  pub answer : Result Totals Refusal
  pub row : List ℕ
  pub stated : (answer, row) ≡ figures s w asked b lent
