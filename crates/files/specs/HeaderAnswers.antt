-- The answer to a header as the paper numbers it. Assumes nothing.
use Rattle.std.specs.Prelude.{List, ◌≡◌, ℕ, Result}
use Rattle.paper.specs.Checks.{Verdict, accepted}
use Rattle.paper.specs.File.{n_in, m_in, e_in}
use Rattle.tables.specs.declared.Refusal.{Refusal}
use Rattle.tables.specs.Answers.{answer_of}
use Rattle.fields.specs.declared.places.Size.{Size}

abbrev pub size_in : List ℕ → Size
size_in bytes = record { n = n_in bytes; m = m_in bytes; e = e_in bytes }

-- the answer that a verdict on a file gives
abbrev pub answer : List ℕ → Verdict → Result Size Refusal
answer bytes = answer_of (size_in bytes)

-- the verdict is acceptance, and these are the counts that the file states
pub record Stated (bytes : List ℕ) (w : Verdict) (n m e : ℕ) : Type 0 where
  pub good : w ≡ accepted
  pub n-is : n ≡ n_in bytes
  pub m-is : m ≡ m_in bytes
  pub e-is : e ≡ e_in bytes
