-- What filling says of the lent rows: the windows of the rows passed stand in the first places, and those of the rows that are left belong behind them.
-- Assumes nothing.
use Rattle.std.specs.Prelude.{ℕ, ◌+◌, ◌-◌, ◌≤◌, cond, List, ◌++◌, map, ◌≡◌, length, take, drop, set, Option, None, Some, IfSome}
use Rattle.paper.specs.Lists.{any}
use Rattle.frequencies.specs.Csv.{is_quote, Row}
use Rattle.frequencies.specs.Values.{time, headway, exact}
use Rattle.frequencies.specs.Reading.{Windows, windows_of, start_of, end_of, headway_of, exact_of, name_place_of, name_length_of, name_doubled_of}
use Rattle.frequencies.specs.Reading as reading
use Rattle.frequencies.specs.Scan.{Scannable, rows_from}
use Rattle.frequencies.specs.declared.fields.Place.{Place}
use Rattle.frequencies.specs.Heading.{columns_in}
use Rattle.frequencies.specs.declared.rows.Columns.{Columns}
use Rattle.frequencies.specs.declared.rows.RowScan.{RowScan}

-- every lent row has k places
pub record Room (k : ℕ) (w : Windows) : Type 0 where
  pub name-places : k ≤ length w.name_places
  pub name-lengths : k ≤ length w.name_lengths
  pub name-doubled : k ≤ length w.name_doubled
  pub starts : k ≤ length w.starts
  pub ends : k ≤ length w.ends
  pub headways : k ≤ length w.headways
  pub exacts : k ≤ length w.exacts
  pub lines : k ≤ length w.lines

-- ── one window ──
-- what a scanned row holds is among the bytes
pub record Held (bytes : List ℕ) (r : RowScan) (line : ℕ) : Type 0 where
  pub small : length bytes ≤ 2147483647
  pub on : line ≤ 2147483648
  pub trip : r.trip.at + r.trip.size ≤ length bytes
  pub start : r.start.at + r.start.size ≤ length bytes
  pub end : r.end.at + r.end.size ≤ length bytes
  pub headway : r.headway.at + r.headway.size ≤ length bytes
  pub exact : r.exact.at + r.exact.size ≤ length bytes

-- its window put at place i
abbrev pub window_put : List ℕ → RowScan → ℕ → ℕ → Windows → Windows
window_put bytes r line i w = record {
  name_places = set w.name_places i r.trip.at;
  name_lengths = set w.name_lengths i r.trip.size;
  name_doubled = set w.name_doubled i (cond (any is_quote (take r.trip.size (drop r.trip.at bytes))) 1 0);
  starts = set w.starts i (time (take r.start.size (drop r.start.at bytes)));
  ends = set w.ends i (time (take r.end.size (drop r.end.at bytes)));
  headways = set w.headways i (headway (take r.headway.size (drop r.headway.at bytes)));
  exacts = set w.exacts i (exact (take r.exact.size (drop r.exact.at bytes)));
  lines = set w.lines i line;
}

-- ── all windows ──
-- f of each of these from place i on, and before and behind them what stands there
abbrev pub laid_from : {A B : Type 0} → ℕ → (A → B) → List A → List B → List B
laid_from i f xs now = take i now ++ (map f xs ++ drop (i + length xs) now)

abbrev pub windows_from : ℕ → reading.Columns → List Row → Windows → Windows
windows_from i c rs w = record {
  name_places = laid_from i (name_place_of c) rs w.name_places;
  name_lengths = laid_from i (name_length_of c) rs w.name_lengths;
  name_doubled = laid_from i (name_doubled_of c) rs w.name_doubled;
  starts = laid_from i (start_of c) rs w.starts;
  ends = laid_from i (end_of c) rs w.ends;
  headways = laid_from i (headway_of c) rs w.headways;
  exacts = laid_from i (exact_of c) rs w.exacts;
  lines = laid_from i (λ (r : Row). r.line) rs w.lines;
}

-- as long as they were
pub record SameSizes (w v : Windows) : Type 0 where
  pub name-places : length v.name_places ≡ length w.name_places
  pub name-lengths : length v.name_lengths ≡ length w.name_lengths
  pub name-doubled : length v.name_doubled ≡ length w.name_doubled
  pub starts : length v.starts ≡ length w.starts
  pub ends : length v.ends ≡ length w.ends
  pub headways : length v.headways ≡ length w.headways
  pub exacts : length v.exacts ≡ length w.exacts
  pub lines : length v.lines ≡ length w.lines

-- the windows of the first i of these rows have been put, and the others are those from place `next` on
pub record Filled (bytes : List ℕ) (c : Columns) (rs : List Row) (w : Windows) (next : Option Place) (i : ℕ) (v : Windows) : Type 0 where
  pub all : windows_from i (columns_in c) (rows_from bytes next) v ≡ windows_of (columns_in c) rs w
  pub room : Room (i + length (rows_from bytes next)) v
  pub sizes : SameSizes w v
  pub here : IfSome next (λ p. Scannable bytes p.at p.line × (i ≤ p.at))

abbrev pub still_to_fill : List ℕ → Option Place → ℕ
still_to_fill bytes None = 0
still_to_fill bytes (Some p) = 1 + (length bytes - p.at)
