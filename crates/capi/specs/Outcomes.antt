-- What a call leaves to a caller across the C boundary: what the paper's call leaves, with the answer in numbers. Assumes nothing.
use Rattle.std.specs.Prelude.{ℕ, ◌<◌, List, ℤ, Result, Ok, Err}
use Rattle.paper.specs.Tables.{Index, index_in}
use Rattle.paper.specs.Checks.{Verdict}
use Rattle.paper.specs.Log.{Log, log_in}
use Rattle.paper.specs.Calls.{Session, number_of, place_of, answered, BuildLeft, TrialLeft, KeepLeft}
use Rattle.paper.specs.File.{Contents, counted}
use Rattle.tables.specs.declared.Refusal.{Refusal}
use Rattle.fields.specs.declared.places.Size.{Size}
use Rattle.salvage.specs.Salvage as salvage
use Rattle.salvage.specs.declared.Saved.{Saved}
use Rattle.records.specs.Left.{record_in}
use Rattle.records.specs.declared.Session as code-session
use Rattle.records.specs.declared.answers.Outcome.{Outcome}
use Rattle.records.specs.Outcomes.{in_numbers}
use Rattle.capi.specs.declared.ReadOutcome.{ReadOutcome}
use Rattle.capi.specs.declared.MoveOutcome.{MoveOutcome}
use Rattle.capi.specs.declared.SalvageOutcome.{SalvageOutcome}

-- ── what the caller has, and what the paper's call leaves: the answer in numbers, then the record and the rows ──
-- build
abbrev pub had_by_build : Outcome → code-session.Session → List ℕ → List ℕ → List ℤ → List ℕ → List ℕ → List ℕ → List ℕ → Outcome × (Session × List ℕ × List ℕ × List ℤ × Index × List ℕ × List ℕ)
had_by_build r session numbers order stored reader_starts reader_places reasons log_sizes = (r, (record_in session, numbers, order, stored, index_in reader_starts reader_places, reasons, log_sizes))

abbrev pub built_out : BuildLeft → Outcome × (Session × List ℕ × List ℕ × List ℤ × Index × List ℕ × List ℕ)
built_out left = (in_numbers left.answer, (left.session, left.numbers, left.order, left.stored, left.index, left.reasons, left.log_sizes))

-- trial
abbrev pub had_by_trial : Outcome → code-session.Session → List ℤ → List ℤ → List ℕ → List ℕ → Outcome × (Session × List ℤ × List ℤ × List ℕ × List ℕ)
had_by_trial r session results trial flags why = (r, (record_in session, results, trial, flags, why))

abbrev pub tried_out : TrialLeft → Outcome × (Session × List ℤ × List ℤ × List ℕ × List ℕ)
tried_out left = (in_numbers left.answer, (left.session, left.results, left.trial, left.flags, left.why))

-- keep and taking back
abbrev pub had_by_keep : Outcome → code-session.Session → List ℤ → List ℕ → List ℕ → List ℕ → List ℕ → List ℤ → Outcome × (Session × List ℤ × List ℕ × List ℕ × Log)
had_by_keep r session stored reasons flags log_sizes log_vars log_values = (r, (record_in session, stored, reasons, flags, log_in log_sizes log_vars log_values))

abbrev pub kept_out : KeepLeft → Outcome × (Session × List ℤ × List ℕ × List ℕ × Log)
kept_out left = (in_numbers left.answer, (left.session, left.stored, left.reasons, left.flags, left.log))

-- write: the answer by its verdict, which has no evaluations, and the bytes
abbrev pub written_out : Verdict × List ℕ → Outcome × List ℕ
written_out left = (in_numbers (answered left.0 0), left.1)

-- read: the answer by its verdict, and the rows under the counts read
abbrev pub left_by_read : ReadOutcome → Contents → Outcome × Contents
left_by_read r c = (record { number = r.number; place = r.place; evaluations = 0 }, counted r.n r.m r.e c)

abbrev pub read_out : Verdict × Contents → Outcome × Contents
read_out left = (in_numbers (answered left.0 0), left.1)

-- five numbers for what `read` answers: no counts if it refused
abbrev pub read_in_numbers : Result Size Refusal → ReadOutcome
read_in_numbers (Ok size) = record { number = 0; place = 0; n = size.n; m = size.m; e = size.e }
read_in_numbers (Err r) = record { number = r.number; place = r.place; n = 0; m = 0; e = 0 }

-- a move from one version to the other: number, place and the new file's length, and the buffer
abbrev pub move_in_numbers : Result ℕ Refusal → MoveOutcome
move_in_numbers (Ok length) = record { number = 0; place = 0; length = length }
move_in_numbers (Err r) = record { number = r.number; place = r.place; length = 0 }

abbrev pub moved_out : Verdict × (ℕ × List ℕ) → MoveOutcome × List ℕ
moved_out left = let a = answered left.0 0 in (record { number = number_of a; place = place_of a; length = left.1.0 }, left.1.1)

-- salvage: five numbers for what it answers, and the two buffers
abbrev pub salvage_in_numbers : Result Saved Refusal → SalvageOutcome
salvage_in_numbers (Ok saved) = record { number = 0; place = 0; length = saved.length; rows = saved.rows; values = saved.values }
salvage_in_numbers (Err r) = record { number = r.number; place = r.place; length = 0; rows = 0; values = 0 }

abbrev pub salvaged_out : salvage.SalvageLeft → SalvageOutcome × (List ℕ × List ℕ)
salvaged_out left = (salvage_in_numbers left.answer, (left.file, left.list))

-- the counts of an answer fit 32 bits
pub record Small (told : Result Size Refusal) : Type 0 where
  pub n-most : (read_in_numbers told).n < 4294967296
  pub m-most : (read_in_numbers told).m < 4294967296
  pub e-most : (read_in_numbers told).e < 4294967296
