-- What the calls above the engine leave to a caller across the C boundary: what each leaves in Rattle, with the answer in numbers. Assumes nothing.
use Rattle.std.specs.Prelude.{ℕ, cond, List, eqb, ℤ, pos, Result, Ok, Err}
use Rattle.paper.specs.Formula as formula
use Rattle.paper.specs.Calls.{Answer}
use Rattle.records.specs.declared.answers.Outcome.{Outcome}
use Rattle.records.specs.Outcomes.{in_numbers}
use Rattle.trials.specs.Trials.{Rows}
use Rattle.figures.specs.declared.Totals.{Totals}
use Rattle.tables.specs.Answers.{refusal}
use Rattle.tables.specs.declared.Refusal.{Refusal}
use Rattle.merging.specs.Merge.{merge}
use Rattle.frequencies.specs.Reading.{Windows, ReadLeft}
use Rattle.frequencies.specs.Writing.{WriteLeft}
use Rattle.boards.specs.Board as board
use Rattle.capi.specs.declared.FiguresOutcome.{FiguresOutcome}
use Rattle.capi.specs.declared.ListOutcome.{ListOutcome}

-- a batch in figures: nine numbers for what it answers, those of no move if it refused, and the row of tallies
abbrev pub figures_in_numbers : Result Totals Refusal → FiguresOutcome
figures_in_numbers (Ok totals) = record {
  number = 0;
  place = 0;
  blank = totals.blank;
  least = totals.least;
  greatest = totals.greatest;
  sum = totals.sum;
  first = totals.first;
  second = totals.second;
  third = totals.third;
}
figures_in_numbers (Err r) = record {
  number = r.number;
  place = r.place;
  blank = 0;
  least = formula.blank;
  greatest = formula.blank;
  sum = pos 0;
  first = 0;
  second = 0;
  third = 0;
}

abbrev pub figures_out : Result Totals Refusal × List ℕ → FiguresOutcome × List ℕ
figures_out left = (figures_in_numbers left.0, left.1)

-- an outcome's figures, and the outcome of a refusal
abbrev pub totals_in : FiguresOutcome → Totals
totals_in x = record {
  blank = x.blank;
  least = x.least;
  greatest = x.greatest;
  sum = x.sum;
  first = x.first;
  second = x.second;
  third = x.third;
}

abbrev pub refused_figures : ℕ → ℕ → FiguresOutcome
refused_figures number place = figures_in_numbers (Err (refusal number place))

-- two batches merged; a refused one has no figures, and the first that is refused is what the call answers
unfoldable pub merged_out : FiguresOutcome → FiguresOutcome → List ℕ → List ℕ → List ℕ → FiguresOutcome × List ℕ
merged_out a b xs ys row =
    cond (eqb a.number 0)
    (cond (eqb b.number 0) (figures_out (merge (totals_in a) (totals_in b) xs ys row)) (refused_figures b.number b.place, row))
    (refused_figures a.number a.place, row)

-- the departure board: three numbers for what it answers, no length if it refused, and the row
abbrev pub list_in_numbers : Result ℕ Refusal → ListOutcome
list_in_numbers (Ok length) = record { number = 0; place = 0; length = length }
list_in_numbers (Err r) = record { number = r.number; place = r.place; length = 0 }

abbrev pub listed_out : board.BoardLeft → ListOutcome × List ℤ
listed_out left = (list_in_numbers left.answer, left.row)

-- frequencies.txt, read and written: three numbers for what the call answers, no count if it refused, and the rows or the buffer
abbrev pub carried_in_numbers : Result ℕ Refusal → ListOutcome
carried_in_numbers told = list_in_numbers told

abbrev pub feed_read : ReadLeft → ListOutcome × Windows
feed_read left = (carried_in_numbers left.answer, left.windows)

abbrev pub feed_written : WriteLeft → ListOutcome × List ℕ
feed_written left = (carried_in_numbers left.answer, left.buffer)

-- many moves: number, place and the evaluations of all, and the rows
abbrev pub trials_out : Answer × Rows → Outcome × Rows
trials_out left = (in_numbers left.0, left.1)
