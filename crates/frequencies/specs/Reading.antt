-- Reading frequencies.txt, as one function from what the call is lent to what it leaves, accepted or refused. Assumes nothing.
use Rattle.std.specs.Prelude.{ℕ, ◌+◌, Bool, cond, not, ◌&&◌, List, [], ◌∷◌, ◌++◌, map, ◌≡◌, eqb, leb, ltb, ℤ, length, get_or, drop, Result}
use Rattle.integers.specs.Integers.{eq_z}
use Rattle.paper.specs.Lists.{any, all, every}
use Rattle.paper.specs.Formula.{blank}
use Rattle.paper.specs.Checks.{Verdict, accepted, refused, require, leaves}
use Rattle.frequencies.specs.Csv.{Field, field, in_quotes, is_quote, body, quotes_right, Row, row, rows_of}
use Rattle.frequencies.specs.Values.{time, headway, exact, trip_id, start_time, end_time, headway_secs, exact_times, column, header_good}
use Rattle.tables.specs.Answers.{answer_of}
use Rattle.tables.specs.declared.Refusal.{Refusal}

-- ── the columns, as the header has them; exact_times may have none, and then no row has a field there ──
pub record Columns : Type 0 where
  pub trip : ℕ
  pub start : ℕ
  pub end : ℕ
  pub headway : ℕ
  pub exact : ℕ

abbrev pub columns_of : Row → Columns
columns_of h = let fs = h.fields in
    record { trip = column trip_id fs; start = column start_time fs; end = column end_time fs; headway = column headway_secs fs; exact = column exact_times fs }

-- ── a row by its columns ──
-- the field in a column, or an empty one
abbrev pub field_in : Row → ℕ → Field
field_in r k = get_or r.fields k (field 0 [])

-- what stands in it
abbrev pub body_in : Row → ℕ → List ℕ
body_in r k = body (field_in r k).raw

module _ (c : Columns) (r : Row) where
  abbrev pub start_of : ℤ
  start_of = time (body_in r c.start)

  abbrev pub end_of : ℤ
  end_of = time (body_in r c.end)

  abbrev pub headway_of : ℤ
  headway_of = headway (body_in r c.headway)

  abbrev pub exact_of : ℕ
  exact_of = exact (body_in r c.exact)

  -- the trip's name: where it begins among the file's bytes, how many bytes it has there, and 1 if quotes stand double in it
  abbrev pub name_place_of : ℕ
  name_place_of = let f = field_in r c.trip in cond (in_quotes f.raw) 1 0 + f.at

  abbrev pub name_length_of : ℕ
  name_length_of = length (body_in r c.trip)

  abbrev pub name_doubled_of : ℕ
  name_doubled_of = cond (any is_quote (body_in r c.trip)) 1 0

  -- 5: both are times
  abbrev pub times_good : Bool
  times_good = not (eq_z start_of blank) && not (eq_z end_of blank)

  -- 6: a headway
  abbrev pub headway_good : Bool
  headway_good = not (eq_z headway_of blank)

  -- 7: nothing, 0 or 1
  abbrev pub exact_good : Bool
  exact_good = leb exact_of 1

  -- 8: the trip has a name
  abbrev pub name_good : Bool
  name_good = ltb 0 name_length_of

-- 3: as many fields as the header
abbrev pub width_good : ℕ → Row → Bool
width_good width r = eqb (length r.fields) width

-- 4: quotes stand only where they may
abbrev pub quotes_good : Row → Bool
quotes_good r = all (λ (f : Field). quotes_right f.raw) r.fields

-- ── the rows that are lent to be filled: a place for each window ──
pub record Windows : Type 0 where
  pub name_places : List ℕ
  pub name_lengths : List ℕ
  pub name_doubled : List ℕ
  pub starts : List ℤ
  pub ends : List ℤ
  pub headways : List ℤ
  pub exacts : List ℕ
  pub lines : List ℕ

abbrev pub windows_in : List ℕ → List ℕ → List ℕ → List ℤ → List ℤ → List ℤ → List ℕ → List ℕ → Windows
windows_in name_places name_lengths name_doubled starts ends headways exacts lines = record {
  name_places = name_places;
  name_lengths = name_lengths;
  name_doubled = name_doubled;
  starts = starts;
  ends = ends;
  headways = headways;
  exacts = exacts;
  lines = lines;
}

-- all of them have this many places
abbrev pub room_for : ℕ → Windows → Bool
room_for k w =
    every (
    leb k (length w.name_places) ∷ leb k (length w.name_lengths) ∷ leb k (length w.name_doubled) ∷ leb k (length w.starts) ∷ leb k (length w.ends)
    ∷ leb k (length w.headways) ∷ leb k (length w.exacts) ∷ leb k (length w.lines) ∷ [])

-- f of each of these in the first places, and behind them what stood there before
abbrev pub laid_over : {A B : Type 0} → (A → B) → List A → List B → List B
laid_over f xs before = map f xs ++ drop (length xs) before

abbrev pub windows_of : Columns → List Row → Windows → Windows
windows_of c rs w = record {
  name_places = laid_over (name_place_of c) rs w.name_places;
  name_lengths = laid_over (name_length_of c) rs w.name_lengths;
  name_doubled = laid_over (name_doubled_of c) rs w.name_doubled;
  starts = laid_over (start_of c) rs w.starts;
  ends = laid_over (end_of c) rs w.ends;
  headways = laid_over (headway_of c) rs w.headways;
  exacts = laid_over (exact_of c) rs w.exacts;
  lines = laid_over (λ (r : Row). r.line) rs w.lines;
}

-- ── the verdict ──
-- one check over all rows before the next: the place is the least line with a row that is not good
abbrev pub check_rows : ℕ → (Row → Bool) → List Row → Verdict → Verdict
check_rows number good [] next = next
check_rows number good (r ∷ rs) next = cond (good r) (check_rows number good rs next) (refused number r.line)

-- the header, which there always is, and the rows behind it
abbrev pub head_of : List Row → Row
head_of [] = row 1 []
head_of (r ∷ rs) = r

abbrev pub header : List ℕ → Row
header bytes = head_of (rows_of bytes)

abbrev pub window_rows : List ℕ → List Row
window_rows bytes = drop 1 (rows_of bytes)

-- 1: places and lines are numbers of 31 bits, and every lent row has a place for each window
abbrev pub read_fits : List ℕ → Windows → Bool
read_fits bytes w = leb (length bytes) 2147483647 && room_for (length (window_rows bytes)) w

unfoldable pub read_verdict : List ℕ → Windows → Verdict
read_verdict bytes w =
    let h = header bytes in let c = columns_of h in let rs = window_rows bytes in
    require 1 0 (read_fits bytes w) (require 2 h.line (header_good h)
    (check_rows 3 (width_good (length h.fields)) rs (check_rows 4 quotes_good (rows_of bytes) (check_rows 5 (times_good c) rs
    (check_rows 6 (headway_good c) rs (check_rows 7 (exact_good c) rs (check_rows 8 (name_good c) rs accepted)))))))

-- ── the call ──
-- what it leaves: the answer, and the rows
pub record ReadLeft : Type 0 where
  pub answer : Result ℕ Refusal
  pub windows : Windows

-- the answer by a verdict, with the count of an accepted call
abbrev pub carried_by : Verdict → ℕ → Result ℕ Refusal
carried_by v count = answer_of count v

abbrev pub left_by_reading : Result ℕ Refusal → Windows → ReadLeft
left_by_reading answer windows = record { answer = answer; windows = windows }

unfoldable pub read_frequencies : List ℕ → Windows → ReadLeft
read_frequencies bytes w =
    let rs = window_rows bytes in let v = read_verdict bytes w in
    left_by_reading (carried_by v (length rs)) (leaves v (windows_of (columns_of (header bytes)) rs w) w)

-- what a caller has at exit; `stated` is the contract's equation
pub record ReadOutcome (bytes : List ℕ) (lent : Windows) : Type 0 where
  pub answer : Result ℕ Refusal
  pub windows : Windows
  pub stated : left_by_reading answer windows ≡ read_frequencies bytes lent
