-- What building a model file leaves, and the text that is printed of it, with the reasons of blanks or without. Assumes nothing.
use Rattle.std.specs.Prelude.{ℕ, Bool, cond, List, ltb, ℤ, pos, length, replicate}
use Rattle.paper.specs.Tables.{Tables, lent, index_in}
use Rattle.paper.specs.Checks.{Verdict, accepted, refused, bounds_in, lowest, highest}
use Rattle.paper.specs.Calls.{Answer, Accepted, Refused, BuildLent, build}
use Rattle.paper.specs.File.{version1, Contents, unbounded_contents, read}
use Rattle.records.specs.Left.{answer_in}
use Rattle.text.specs.Lines.{lines, refusal}
use Rattle.report.specs.declared.Built.{Built}

-- what building a file leaves: the answer, how many variables the file holds, their topological numbers and values, and the reasons
pub record FileLeft : Type 0 where
  pub answer : Answer
  pub n : ℕ
  pub numbers : List ℕ
  pub stored : List ℤ
  pub reasons : List ℕ

-- the rows of zeros that a file is laid over
abbrev pub empty : Contents
empty =
    unbounded_contents
    (lent 0 0 0 (replicate 4096 0) (replicate 4096 0) (replicate 4096 (pos 0)) (replicate 4096 0) (replicate 4096 0)
    (replicate 16384 0) (replicate 16384 (pos 0)))
    (replicate 4096 (pos 0))

-- what build is lent: the tables and start values that a file held, full bounds, rows for numbers, values and reasons, and else rows of zeros to fill
abbrev pub lent_for_file : Tables → List ℤ → List ℕ → List ℤ → List ℕ → BuildLent
lent_for_file t starts numbers stored reasons = record {
  session = record { kept = 0; evaluations = 0; blanks = 0 };
  tables = t;
  bounds = bounds_in (replicate 4096 lowest) (replicate 4096 highest);
  starts = starts;
  numbers = numbers;
  order = replicate 4096 0;
  stored = stored;
  index = index_in (replicate 4097 0) (replicate 16384 0);
  reasons = reasons;
  log_sizes = replicate 65 0;
}

-- ── what building leaves in rows that are lent for numbers, values and reasons ──
module _ (numbers : List ℕ) (stored : List ℤ) (reasons : List ℕ) where
  -- of tables and start values: what build leaves of them
  unfoldable pub of_tables : Tables → List ℤ → FileLeft
  of_tables t starts =
      let left = build (lent_for_file t starts numbers stored reasons) in
      record { answer = left.answer; n = t.n; numbers = left.numbers; stored = left.stored; reasons = left.reasons }

  -- of a file that is not built: the refusal, and the rows as they were
  abbrev pub unbuilt : ℕ → ℕ → FileLeft
  unbuilt number place = record { answer = Refused number place; n = 0; numbers = numbers; stored = stored; reasons = reasons }

  -- of what reading gave: the refusal, or what build leaves of what the file held
  abbrev pub of_read : Verdict × Contents → FileLeft
  of_read (accepted, c) = of_tables c.tables c.starts
  of_read (refused number place, c) = unbuilt number place

  -- of a file: one of more than 65,536 bytes is refused before any other check
  unfoldable pub of_file : List ℕ → FileLeft
  of_file file = cond (ltb 65536 (length file)) (unbuilt 1 0) (of_read (read version1 file empty))

-- the same of what the code gives: its answer, and the rows after it
abbrev pub left_by_file : Built → List ℕ → List ℤ → List ℕ → FileLeft
left_by_file r numbers stored reasons = record { answer = answer_in r.answer; n = r.n; numbers = numbers; stored = stored; reasons = reasons }

-- ── the text ──
-- what is said of an answer: the refusal line, or the list of what build left, with the reasons or without
abbrev pub said : Bool → Answer → ℕ → List ℕ → List ℤ → List ℕ → List ℕ
said reasons (Accepted evaluations) n numbers stored row = lines reasons n numbers stored row
said reasons (Refused number place) n numbers stored row = refusal number place

abbrev pub text_of : Bool → FileLeft → List ℕ
text_of reasons left = said reasons left.answer left.n left.numbers left.stored left.reasons

-- the text for a file: what is said of what building it leaves in rows of zeros
unfoldable pub printed : Bool → List ℕ → List ℕ
printed reasons file = text_of reasons (of_file (replicate 4096 0) (replicate 4096 (pos 0)) (replicate 4096 0) file)
