-- The bytes of a file as rows of fields, by RFC 4180: fields are parted by commas and rows by line ends, but not between the quotes of a field. Assumes nothing.
use Rattle.std.specs.Prelude.{ℕ, suc, ◌-◌, Bool, true, false, cond, not, ◌&&◌, List, [], ◌∷◌, eqb, length, take, drop}
use Rattle.paper.specs.Lists.{any, every, nat}

-- ── bytes ──
abbrev pub is_line_feed : ℕ → Bool
is_line_feed = eqb 10

abbrev pub is_return : ℕ → Bool
is_return = eqb 13

abbrev pub is_quote : ℕ → Bool
is_quote = eqb 34

abbrev pub is_comma : ℕ → Bool
is_comma = eqb 44

-- a line feed is the first of these bytes
abbrev pub line_feed_next : List ℕ → Bool
line_feed_next [] = false
line_feed_next (b ∷ bs) = is_line_feed b

-- ── fields ──
-- where its first byte stands among the file's, and its bytes, quotes among them
pub record Field : Type 0 where
  pub at : ℕ
  pub raw : List ℕ

abbrev pub field : ℕ → List ℕ → Field
field at raw = record { at = at; raw = raw }

-- it begins with a quote
abbrev pub in_quotes : List ℕ → Bool
in_quotes [] = false
in_quotes (b ∷ bs) = is_quote b

-- what stands between its quotes, if it has any; a quote that stands there is still double
abbrev pub body : List ℕ → List ℕ
body raw = cond (in_quotes raw) (take (length raw - 2) (drop 1 raw)) raw

-- each two quotes are one: `one` says that the first of two was passed
abbrev pub halved_from : Bool → List ℕ → List ℕ
halved_from one [] = []
halved_from false (b ∷ bs) = cond (is_quote b) (halved_from true bs) (b ∷ halved_from false bs)
halved_from true (b ∷ bs) = b ∷ halved_from false bs

abbrev pub halved : List ℕ → List ℕ
halved = halved_from false

-- every quote is one of two next to each other
abbrev pub doubled_from : Bool → List ℕ → Bool
doubled_from one [] = not one
doubled_from false (b ∷ bs) = doubled_from (is_quote b) bs
doubled_from true (b ∷ bs) = is_quote b && doubled_from false bs

-- behind its first quote a field is closed: each quote but the last is one of two
abbrev pub closed_from : Bool → List ℕ → Bool
closed_from one [] = one
closed_from false (b ∷ bs) = closed_from (is_quote b) bs
closed_from true (b ∷ bs) = is_quote b && closed_from false bs

-- quotes stand only where they may: around the field, and double in it
abbrev pub quotes_right : List ℕ → Bool
quotes_right [] = true
quotes_right (b ∷ bs) = cond (is_quote b) (closed_from false bs) (not (any is_quote bs))

-- ── rows: the line on which one begins, and its fields ──
pub record Row : Type 0 where
  pub line : ℕ
  pub fields : List Field

abbrev pub row : ℕ → List Field → Row
row line fields = record { line = line; fields = fields }

-- ── from a place on: the field there, the fields behind it in its row, its line, and the rows behind ──
pub record Rest : Type 0 where
  pub first : Field
  pub fields : List Field
  pub line : ℕ
  pub rows : List Row

abbrev pub row_of : Rest → Row
row_of r = row r.line (r.first ∷ r.fields)

abbrev pub all_rows : Rest → List Row
all_rows r = row_of r ∷ r.rows

-- nothing is left; a comma is next; a line feed; a return that belongs to a line feed; any other byte
abbrev pub ended : ℕ → ℕ → Rest
ended at line = record { first = field at []; fields = []; line = line; rows = [] }

abbrev pub parted : ℕ → ℕ → Rest → Rest
parted at line r = record { first = field at []; fields = r.first ∷ r.fields; line = line; rows = r.rows }

abbrev pub line_ended : ℕ → ℕ → Rest → Rest
line_ended at line r = record { first = field at []; fields = []; line = line; rows = all_rows r }

abbrev pub passed : ℕ → Rest → Rest
passed at r = record { first = field at r.first.raw; fields = r.fields; line = r.line; rows = r.rows }

abbrev pub onto : ℕ → ℕ → ℕ → Rest → Rest
onto at line b r = record { first = field at (b ∷ r.first.raw); fields = r.fields; line = line; rows = r.rows }

-- where in a field a byte stands: at its front, in one without quotes, between the quotes, or behind a quote that closes it unless another follows
pub data Mode : Type 0 where
  front plain inside behind : Mode

abbrev pub outside : Mode → Bool
outside front = true
outside plain = true
outside inside = false
outside behind = true

-- where the byte behind b stands
abbrev pub after : Mode → ℕ → Mode
after front b = cond (is_quote b) inside plain
after plain b = plain
after inside b = cond (is_quote b) behind inside
after behind b = cond (is_quote b) inside plain

-- the bytes from place `at` on, which is on this line
unfoldable pub split : ℕ → ℕ → Mode → List ℕ → Rest
split at line mode [] = ended at line
split at line mode (b ∷ bs) =
    cond (outside mode && is_comma b) (parted at line (split (suc at) line front bs))
    (cond (outside mode && is_line_feed b) (line_ended at line (split (suc at) (suc line) front bs))
    (cond (outside mode && (is_return b && line_feed_next bs)) (passed at (split (suc at) line mode bs))
    (onto at line b (split (suc at) (cond (is_line_feed b) (suc line) line) (after mode b) bs))))

-- ── the file ──
-- the length of the byte order mark at its front
abbrev pub mark_length : List ℕ → ℕ
mark_length bytes = cond (every (eqb (nat bytes 0) 239 ∷ eqb (nat bytes 1) 187 ∷ eqb (nat bytes 2) 191 ∷ [])) 3 0

-- nothing but line ends, of which a first line feed may be the second byte
abbrev pub only_ends : List ℕ → Bool
only_ends [] = true
only_ends (b ∷ bs) = cond (is_line_feed b) (only_ends bs) (is_return b && (line_feed_next bs && only_ends bs))

-- without the line ends at its end: the last line's, and those of empty lines behind it
abbrev pub trimmed : List ℕ → List ℕ
trimmed [] = []
trimmed (b ∷ bs) = cond (only_ends (b ∷ bs)) [] (b ∷ trimmed bs)

-- its rows, the header first; lines are counted from 1
unfoldable pub rows_of : List ℕ → List Row
rows_of bytes = let mark = mark_length bytes in all_rows (split mark 1 front (trimmed (drop mark bytes)))
