-- What scanning says of a field and of a row: where it stands among the bytes, and what is behind it. Assumes nothing.
use Rattle.std.specs.Prelude.{ℕ, ◌+◌, ◌-◌, ◌≤◌, ◌<◌, Bool, false, cond, not, ◌&&◌, ◌||◌, List, [], ◌∷◌, ◌≡◌, eqb, length, get_or, take, drop, Option, None, Some, IfSome}
use Rattle.std.specs.Bool.{⊤}
use Rattle.paper.specs.Lists.{any, all}
use Rattle.frequencies.specs.Csv.{is_line_feed, is_return, is_quote, is_comma, line_feed_next, Field, field, in_quotes, body, closed_from, quotes_right, Row, Rest, row_of, all_rows, Mode, front, plain, inside, behind, split}
use Rattle.frequencies.specs.Reading.{quotes_good}
use Rattle.frequencies.specs.declared.fields.Closing.{Closing}
use Rattle.frequencies.specs.declared.fields.Plain.{Plain}
use Rattle.frequencies.specs.declared.fields.Place.{Place}
use Rattle.frequencies.specs.declared.fields.Behind.{Behind}
use Rattle.frequencies.specs.declared.fields.Behind.TheVariants.{Comma, Line, File}
use Rattle.frequencies.specs.declared.fields.FieldScan.{FieldScan}
use Rattle.frequencies.specs.declared.rows.Columns.{Columns}
use Rattle.frequencies.specs.declared.rows.RowScan.{RowScan}

-- a place from which is scanned: it is on this line, and numbers of 31 bits hold both
pub record Scannable (bytes : List ℕ) (at line : ℕ) : Type 0 where
  pub fits : at ≤ length bytes
  pub small : length bytes ≤ 2147483647
  pub lines : line ≤ at + 1

-- ── a field ──
-- this byte is the first of these
abbrev pub headed_by : ℕ → List ℕ → Bool
headed_by x [] = false
headed_by x (b ∷ bs) = eqb x b

-- the first of these bytes is one of a field without quotes: it parts neither fields nor rows
abbrev pub goes_on : List ℕ → Bool
goes_on [] = false
goes_on (b ∷ bs) = not (is_comma b || (is_line_feed b || (is_return b && line_feed_next bs)))

-- the first of these bytes is one between quotes: behind a quote, another
abbrev pub stays_in : Bool → List ℕ → Bool
stays_in closing [] = false
stays_in closing (b ∷ bs) = not closing || is_quote b

abbrev pub closing_mode : Bool → Mode
closing_mode closing = cond closing behind inside

-- scanning has come from one place of a field to another: the field ends at the same place, and the same is behind it
pub record Reached (at : ℕ) (s : Rest) (i : ℕ) (t : Rest) : Type 0 where
  pub size : at + length s.first.raw ≡ i + length t.first.raw
  pub fields : s.fields ≡ t.fields
  pub rows : s.rows ≡ t.rows

-- from behind a field's first quote, at place `at`, to the end of the file or behind a quote that no other follows
module _ (bytes : List ℕ) (at line : ℕ) where
  abbrev pub inside_at : Rest
  inside_at = split at line inside (drop at bytes)

  abbrev pub closing_at : ℕ → ℕ → Bool → Rest
  closing_at i line closing = split i line (closing_mode closing) (drop i bytes)

  pub record QuotesPassed (i line' : ℕ) (closing : Bool) : Type 0 where
    pub way : Reached at inside_at i (closing_at i line' closing)
    pub closed : closed_from false inside_at.first.raw ≡ closed_from closing (closing_at i line' closing).first.raw
    pub begins : at ≤ i
    pub scannable : Scannable bytes i line'

  pub record QuotesClosed (r : Closing) : Type 0 where
    pub passed : QuotesPassed r.end.at r.end.line r.closing
    pub out : stays_in r.closing (drop r.end.at bytes) ≡ false

-- a field without quotes from place `at` on, or what is left of one, on any line
module _ (bytes : List ℕ) (at : ℕ) where
  abbrev pub plain_at : ℕ → ℕ → Rest
  plain_at line i = split i line plain (drop i bytes)

  pub record PlainPassed (i : ℕ) (quote : Bool) : Type 0 where
    pub way : (line : ℕ) → Reached at (plain_at line at) i (plain_at line i)
    pub quotes : (line : ℕ) → any is_quote (plain_at line at).first.raw ≡ (quote || any is_quote (plain_at line i).first.raw)
    pub begins : at ≤ i
    pub fits : i ≤ length bytes

  pub record PlainEnded (r : Plain) : Type 0 where
    pub passed : PlainPassed r.end r.quote
    pub out : goes_on (drop r.end bytes) ≡ false

-- from a field on: behind a comma come the row's other fields, behind a line end the other rows, behind the file's end neither
module _ (bytes : List ℕ) where
  abbrev pub rest_at : Place → Rest
  rest_at p = split p.at p.line front (drop p.at bytes)

  abbrev pub fields_behind : Behind → List Field
  fields_behind (Comma p) = (row_of (rest_at p)).fields
  fields_behind (Line p) = []
  fields_behind File = []

  abbrev pub rows_behind : Behind → List Row
  rows_behind (Comma p) = (rest_at p).rows
  rows_behind (Line p) = all_rows (rest_at p)
  rows_behind File = []

  abbrev pub behind_field : Behind → Field → ℕ → Rest
  behind_field b f line = record { first = f; fields = fields_behind b; line = line; rows = rows_behind b }

  -- a place behind another, from which is scanned
  pub record Later (at : ℕ) (p : Place) : Type 0 where
    pub scannable : Scannable bytes p.at p.line
    pub on : at < p.at

  abbrev pub Beyond : ℕ → Behind → Type 0
  Beyond at (Comma p) = Later at p
  Beyond at (Line p) = Later at p
  Beyond at File = ⊤

-- P of the place behind a comma
abbrev pub ForComma : Behind → (Place → Type 0) → Type 0
ForComma (Comma p) P = P p
ForComma (Line p) P = ⊤
ForComma File P = ⊤

-- the rows from a place on, if there are any
abbrev pub rows_from : List ℕ → Option Place → List Row
rows_from bytes None = []
rows_from bytes (Some p) = all_rows (rest_at bytes p)

-- the next row, behind the last field of one
abbrev pub row_behind : Behind → Option Place
row_behind (Comma p) = None
row_behind (Line p) = Some p
row_behind File = None

-- the end of a field at place `at`
pub record EndPassed (bytes : List ℕ) (at line : ℕ) (b : Behind) : Type 0 where
  pub is : split at line plain (drop at bytes) ≡ behind_field bytes b (field at []) line
  pub beyond : Beyond bytes at b

-- the field at place `at`: its bytes, whether it begins with a quote, whether its quotes are right, and what is behind it
pub record FieldScanned (bytes : List ℕ) (at line : ℕ) (r : FieldScan) : Type 0 where
  pub is : split at line front (drop at bytes) ≡ behind_field bytes r.behind (field at (take (r.end - at) (drop at bytes))) line
  pub quoted : r.quoted ≡ in_quotes (take (r.end - at) (drop at bytes))
  pub right : r.right ≡ quotes_right (take (r.end - at) (drop at bytes))
  pub begins : at ≤ r.end
  pub fits : r.end ≤ length bytes
  pub beyond : Beyond bytes r.end r.behind

-- ── a row ──
-- what stands in a field is `size` bytes from this place on
pub record Stands (bytes : List ℕ) (f : Field) (place size : ℕ) : Type 0 where
  pub place_is : place ≡ cond (in_quotes f.raw) 1 0 + f.at
  pub size_is : size ≡ length (body f.raw)
  pub bytes-are : take size (drop place bytes) ≡ body f.raw
  pub inside : place + size ≤ length bytes

-- the field in a column of these, or an empty one
abbrev pub column_of : List Field → ℕ → Field
column_of fs k = get_or fs k (field 0 [])

-- what five columns hold in these fields
pub record AllStand (bytes : List ℕ) (fs : List Field) (c : Columns) (r : RowScan) : Type 0 where
  pub trip : Stands bytes (column_of fs c.trip) r.trip.at r.trip.size
  pub start : Stands bytes (column_of fs c.start) r.start.at r.start.size
  pub end : Stands bytes (column_of fs c.end) r.end.at r.end.size
  pub headway : Stands bytes (column_of fs c.headway) r.headway.at r.headway.size
  pub exact : Stands bytes (column_of fs c.exact) r.exact.at r.exact.size

module _ (bytes : List ℕ) (at line : ℕ) (c : Columns) where
  abbrev pub scanned_at : Rest
  scanned_at = split at line front (drop at bytes)

  -- what is behind the first fields of a row, of which there are `width`
  abbrev pub Ahead : ℕ → Behind → Type 0
  Ahead width (Comma p) = Scannable bytes p.at p.line × (at ≤ p.at) × (width ≤ p.at)
  Ahead width (Line p) = Later bytes at p
  Ahead width File = ⊤

  -- a row of which the first fields have been scanned
  pub record RowPart (r : RowScan) : Type 0 where
    pub left : drop r.width (row_of scanned_at).fields ≡ fields_behind bytes r.behind
    pub width : r.width ≤ length (row_of scanned_at).fields
    pub right : r.right ≡ all (λ (f : Field). quotes_right f.raw) (take r.width (row_of scanned_at).fields)
    pub columns : AllStand bytes (take r.width (row_of scanned_at).fields) c r
    pub rows : scanned_at.rows ≡ rows_behind bytes r.behind
    pub ahead : Ahead r.width r.behind

  -- a row: its width, its quotes, what its columns hold, and the rows behind it
  pub record RowScanned (r : RowScan) : Type 0 where
    pub width : r.width ≡ length (row_of scanned_at).fields
    pub right : r.right ≡ quotes_good (row_of scanned_at)
    pub columns : AllStand bytes (row_of scanned_at).fields c r
    pub rows : scanned_at.rows ≡ rows_from bytes (row_behind r.behind)
    pub beyond : IfSome (row_behind r.behind) (Later bytes at)

-- one more field: the measure of the walk over a row falls
abbrev pub still_to_scan : List ℕ → Behind → ℕ
still_to_scan bytes (Comma p) = 1 + (length bytes - p.at)
still_to_scan bytes (Line p) = 0
still_to_scan bytes File = 0

pub record NextScanned (bytes : List ℕ) (c : Columns) (from : Place) (row r : RowScan) : Type 0 where
  pub part : (at line : ℕ) → RowPart bytes at line c row → RowPart bytes at line c r
  pub less : still_to_scan bytes r.behind < still_to_scan bytes (Comma from)
