-- The answer that stands for a verdict of the paper. Assumes nothing.
use Rattle.std.specs.Prelude.{ℕ, Option, Some, None, Result, Ok, Err}
use Rattle.paper.specs.Checks.{Verdict, accepted, refused}
use Rattle.tables.specs.declared.Refusal.{Refusal}

abbrev pub refusal : ℕ → ℕ → Refusal
refusal number place = record { number = number; place = place }

-- of a call that answers `a` if it was accepted
abbrev pub answer_of : {A : Type 0} → A → Verdict → Result A Refusal
answer_of a accepted = Ok a
answer_of a (refused number place) = Err (refusal number place)

-- of a check with this number that fails at a place, or nowhere
abbrev pub unless_at : ℕ → Option ℕ → Result Unit Refusal
unless_at number None = Ok tt
unless_at number (Some place) = Err (refusal number place)
