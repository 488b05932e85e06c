-- Salvage of a damaged model file of version 1, as one function from what the call is lent to what it leaves, accepted or refused. Of the header only the
-- version and the counts are looked at, and everything is placed by these counts. Assumes nothing.
use Rattle.std.specs.Prelude.{ℕ, ◌&&◌, List, ◌++◌, ◌≡◌, leb, length, drop, Result}
use Rattle.paper.specs.Checks.{Verdict, accepted, require, leaves, by_lines}
use Rattle.paper.specs.File.{version1, head_lines}
use Rattle.damage.specs.Saved.{saved_file, dropped_rows, reset_values, saved_list}
use Rattle.tables.specs.Answers.{answer_of}
use Rattle.tables.specs.declared.Refusal.{Refusal}
use Rattle.salvage.specs.declared.Saved.{Saved}

-- ── the call: what it is lent, and what it leaves ──
pub record SalvageLent : Type 0 where
  pub bytes : List ℕ
  pub file : List ℕ
  pub list : List ℕ

pub record SalvageLeft : Type 0 where
  pub answer : Result Saved Refusal
  pub file : List ℕ
  pub list : List ℕ

-- an accepted call answers the length of the file, and how many rows and how many start values the list has
abbrev pub saved : ℕ → ℕ → ℕ → Saved
saved length rows values = record { length = length; rows = rows; values = values }

module _ (l : SalvageLent) where
  -- 14: the header's length, version and counts; then 1: room for the file and for the list
  unfoldable pub salvage_verdict : Verdict
  salvage_verdict = by_lines (head_lines version1 l.bytes) (require 1 0 (leb (length (saved_file l.bytes)) (length l.file) && leb (length (saved_list l.bytes)) (length l.list)) accepted)

  -- the length of the file, and how many rows and how many start values the list has
  abbrev pub salvaged_by : Verdict → Result Saved Refusal
  salvaged_by = answer_of (saved (length (saved_file l.bytes)) (length (dropped_rows l.bytes)) (length (reset_values l.bytes)))

  abbrev pub salvage_leaves : Verdict → SalvageLeft
  salvage_leaves v = record {
    answer = salvaged_by v;
    file = leaves v (saved_file l.bytes ++ drop (length (saved_file l.bytes)) l.file) l.file;
    list = leaves v (saved_list l.bytes ++ drop (length (saved_list l.bytes)) l.list) l.list;
  }

  unfoldable pub salvage : SalvageLeft
  salvage = salvage_leaves salvage_verdict

abbrev pub lends_to_salvage : List ℕ → List ℕ → List ℕ → SalvageLent
lends_to_salvage bytes file list = record { bytes = bytes; file = file; list = list }

abbrev pub left_by_salvage : Result Saved Refusal → List ℕ → List ℕ → SalvageLeft
left_by_salvage answer file list = record { answer = answer; file = file; list = list }

-- what a caller has at exit; `stated` is the contract's equation
pub record SalvageHad (l : SalvageLent) : Type 0 where
  pub answer : Result Saved Refusal
  pub file : List ℕ
  pub list : List ℕ
  pub stated : left_by_salvage answer file list ≡ salvage l
