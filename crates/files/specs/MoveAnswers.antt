-- The answer of a move to another version as the paper numbers it. Assumes nothing.
use Rattle.std.specs.Prelude.{List, ℕ, Result, Ok, Err}
use Rattle.paper.specs.Checks.{Verdict, accepted, refused}
use Rattle.tables.specs.declared.Refusal.{Refusal}

-- what a caller has once a file was moved to another version: the verdict, the new file's length (0 if refused), and the buffer
abbrev pub has_converted : Result ℕ Refusal → List ℕ → Verdict × (ℕ × List ℕ)
has_converted (Ok length) file = (accepted, (length, file))
has_converted (Err r) file = (refused r.number r.place, (0, file))
