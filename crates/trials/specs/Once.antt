-- What is known of a model that is judged once for many moves. Assumes nothing.
use Rattle.std.specs.Prelude.{ℕ, Bool, List, Result}
use Rattle.paper.specs.Calls.{Model, TrialLent}
use Rattle.tables.specs.declared.Refusal.{Refusal}
use Rattle.verdicts.specs.Lent.{move_own_fits as own_fits}
use Rattle.verdicts.specs.ModelJudged.{OnceJudged as ModelOnce}
use Rattle.trials.specs.declared.once.Judged as code-judged

-- refused with 1 where its buffers are too short, and else judged by its checks
abbrev pub OnceJudged : Model → ℕ → List ℕ → Result Bool Refusal → Type 0
OnceJudged = ModelOnce

-- the same of what is handed on to each move
abbrev pub JudgedOnce : Model → ℕ → code-judged.Judged → Type 0
JudgedOnce w blanks j = OnceJudged w blanks j.by.now j.verdict

-- check 1 of what a move is lent beside the model
abbrev pub move_own_fits : ℕ → TrialLent → Bool
move_own_fits = own_fits
