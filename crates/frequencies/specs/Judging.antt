-- What judging the rows says: of the rows passed and the ones that are left, what is so of all. Assumes nothing.
use Rattle.std.specs.Prelude.{ℕ, ◌+◌, ◌≤◌, ◌<◌, Bool, cond, List, [], ◌≡◌, length, Option, None, Some, IfSome}
use Rattle.std.specs.Option.{option_or}
use Rattle.paper.specs.Checks.{Verdict, refused}
use Rattle.frequencies.specs.Csv.{Row}
use Rattle.frequencies.specs.Reading.{check_rows, width_good, quotes_good, times_good, headway_good, exact_good, name_good}
use Rattle.frequencies.specs.Reading as reading
use Rattle.frequencies.specs.Scan.{Scannable, rows_from}
use Rattle.frequencies.specs.declared.fields.Place.{Place}
use Rattle.frequencies.specs.Heading.{columns_in}
use Rattle.frequencies.specs.Filling.{still_to_fill}
use Rattle.frequencies.specs.declared.rows.Columns.{Columns}
use Rattle.frequencies.specs.declared.judge.Judged.{Judged}

-- the line of the first row that is not good, with one row more
abbrev pub first_bad : Option ℕ → Bool → ℕ → Option ℕ
first_bad bad good line = option_or bad (cond good None (Some line))

-- refused by that line, if there is one
abbrev pub by_line : ℕ → Option ℕ → Verdict → Verdict
by_line number None next = next
by_line number (Some line) next = refused number line

-- one check over all rows, of which some are left: `bad` is the line of the first that was passed and is not good, if any is not
pub record Checked (good : Row → Bool) (rs left : List Row) (bad : Option ℕ) : Type 0 where
  pub so : (number : ℕ) (next : Verdict) → by_line number bad (check_rows number good left next) ≡ check_rows number good rs next

-- all checks; those of quotes begin with the header
pub record Tested (c : reading.Columns) (width : ℕ) (all rs left : List Row) (j : Judged) : Type 0 where
  pub count : j.count + length left ≡ length rs
  pub widths : Checked (width_good width) rs left j.widths
  pub quotes : Checked quotes_good all left j.quotes
  pub times : Checked (times_good c) rs left j.times
  pub headways : Checked (headway_good c) rs left j.headways
  pub exacts : Checked (exact_good c) rs left j.exacts
  pub names : Checked (name_good c) rs left j.names

-- the rows that are left
abbrev pub rows_left : List ℕ → Judged → List Row
rows_left bytes j = rows_from bytes j.next

-- numbers of 32 bits hold the lines that have been found
abbrev pub line_small : Option ℕ → Type 0
line_small bad = IfSome bad (λ line. line ≤ 2147483648)

pub record LinesSmall (j : Judged) : Type 0 where
  pub widths : line_small j.widths
  pub quotes : line_small j.quotes
  pub times : line_small j.times
  pub headways : line_small j.headways
  pub exacts : line_small j.exacts
  pub names : line_small j.names

-- and the count
pub record Started (bytes : List ℕ) (j : Judged) : Type 0 where
  pub here : IfSome j.next (λ p. Scannable bytes p.at p.line × (j.count ≤ p.at))
  pub lines : LinesSmall j

pub record JudgedNext (bytes : List ℕ) (c : Columns) (width : ℕ) (j : Judged) (from : Place) (r : Judged) : Type 0 where
  pub started : Started bytes r
  pub part : (all rs : List Row) → Tested (columns_in c) width all rs (rows_left bytes j) j → Tested (columns_in c) width all rs (rows_left bytes r) r
  pub less : still_to_fill bytes r.next < still_to_fill bytes (Some from)

-- all rows up to where judging has come
pub record JudgedSince (bytes : List ℕ) (c : Columns) (width : ℕ) (j r : Judged) : Type 0 where
  pub started : Started bytes r
  pub part : (all rs : List Row) → Tested (columns_in c) width all rs (rows_left bytes j) j → Tested (columns_in c) width all rs (rows_left bytes r) r

pub record JudgedAll (bytes : List ℕ) (c : Columns) (width : ℕ) (j r : Judged) : Type 0 where
  pub started : Started bytes r
  pub all : (all rs : List Row) → Tested (columns_in c) width all rs (rows_left bytes j) j → Tested (columns_in c) width all rs [] r
