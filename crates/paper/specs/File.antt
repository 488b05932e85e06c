-- The model file in its two versions: the bytes of a model, what a reader makes of any bytes, and a file of one version as one of the other.
-- Assumes nothing.
use Rattle.std.specs.Prelude.{ℕ, zero, suc, ◌+◌, ◌*◌, ◌/◌, ◌%◌, ◌<◌, Bool, true, false, ◌&&◌, List, [], ◌∷◌, ◌++◌, ℤ, pos, eqb, leb, length, get_or, take, drop}
use Rattle.std.specs.Int.{w16, w32}
use Rattle.std.proofs.Common.{of_z, to_z, SFits}
use Rattle.paper.specs.Lists.{between, nat, joined, over}
use Rattle.paper.specs.Tables.{Tables, bare, lent}
use Rattle.paper.specs.Checks.{Verdict, accepted, Line, places, whole, by_lines, leaves, lowest, highest, sized}

-- the w lowest bytes of x, the least first; a signed number goes by its bits
abbrev pub bytes_of : ℕ → ℕ → List ℕ
bytes_of zero x = []
bytes_of (suc w) x = x % 256 ∷ bytes_of w (x / 256)

-- the number that the w bytes from k on hold
abbrev pub field : ℕ → ℕ → List ℕ → ℕ
field zero k bytes = 0
field (suc w) k bytes = nat bytes k + 256 * field w (suc k) bytes

-- ── what the versions differ in: version 2 has bounds behind the entries, and a field that says where ──
pub data Version : Type 0 where
  version1 version2 : Version

-- as the code says it: with bounds or without
abbrev pub version_of : Bool → Version
version_of false = version1
version_of true = version2

-- the number in the header
abbrev pub version_number : Version → ℕ
version_number version1 = 1
version_number version2 = 2

-- the header's length, where the start values begin
abbrev pub head_of : Version → ℕ
head_of version1 = 24
head_of version2 = 28

-- of n variables, how many have bounds in the file
abbrev pub bounded : Version → ℕ → ℕ
bounded version1 n = 0
bounded version2 n = n

-- ── where rows, entries and bounds begin behind a header of h bytes, and where a file ends ──
abbrev pub rows_from : ℕ → ℕ → ℕ
rows_from h n = h + 4 * n

abbrev pub entries_from : ℕ → ℕ → ℕ → ℕ
entries_from h n m = h + 4 * n + 12 * m

abbrev pub bounds_from : ℕ → ℕ → ℕ → ℕ → ℕ
bounds_from h n m e = h + 4 * n + 12 * m + 4 * e

abbrev pub ends_at : Version → ℕ → ℕ → ℕ → ℕ
ends_at v n m e = bounds_from (head_of v) n m e + 8 * bounded v n

-- ── what a file holds: tables, start values, and bounds, which version 1 neither takes nor gives ──
pub record Contents : Type 0 where
  pub tables : Tables
  pub starts : List ℤ
  pub lows : List ℤ
  pub highs : List ℤ

abbrev pub contents : Tables → List ℤ → List ℤ → List ℤ → Contents
contents t starts lows highs = record { tables = t; starts = starts; lows = lows; highs = highs }

abbrev pub unbounded_contents : Tables → List ℤ → Contents
unbounded_contents t starts = contents t starts [] []

-- lent rows under other counts
abbrev pub counted : ℕ → ℕ → ℕ → Contents → Contents
counted n m e c = let t = c.tables in
    contents (lent n m e t.kinds t.makes t.params t.firsts t.counts t.vars t.coefs) c.starts c.lows c.highs

-- ── the bytes of a model: header, start values, rows, entries, and bounds, lowest then highest ──
-- the field that version 2 has behind the total
abbrev pub bounds_field : Version → ℕ → ℕ → ℕ → List ℕ
bounds_field version1 n m e = []
bounds_field version2 n m e = bytes_of 4 (bounds_from 28 n m e)

abbrev pub head_bytes : Version → ℕ → ℕ → ℕ → List ℕ
head_bytes v n m e = let h = head_of v in
    bytes_of 2 (version_number v) ++ bytes_of 2 n ++ bytes_of 2 m ++ bytes_of 2 e
    ++ bytes_of 4 h ++ bytes_of 4 (rows_from h n) ++ bytes_of 4 (entries_from h n m) ++ bytes_of 4 (ends_at v n m e) ++ bounds_field v n m e

abbrev pub start_bytes : List ℤ → ℕ → List ℕ
start_bytes starts v = bytes_of 4 (of_z w32 (get_or starts v (pos 0)))

abbrev pub row_bytes : List ℕ → List ℕ → List ℤ → List ℕ → List ℕ → ℕ → List ℕ
row_bytes kinds makes params firsts counts r =
    bytes_of 2 (nat kinds r) ++ bytes_of 2 (nat makes r) ++ bytes_of 4 (of_z w32 (get_or params r (pos 0)))
    ++ bytes_of 2 (nat firsts r) ++ bytes_of 2 (nat counts r)

abbrev pub entry_bytes : List ℕ → List ℤ → ℕ → List ℕ
entry_bytes vars coefs i = bytes_of 2 (nat vars i) ++ bytes_of 2 (of_z w16 (get_or coefs i (pos 0)))

abbrev pub bound_bytes : List ℤ → List ℤ → ℕ → List ℕ
bound_bytes lows highs v = bytes_of 4 (of_z w32 (get_or lows v (pos 0))) ++ bytes_of 4 (of_z w32 (get_or highs v (pos 0)))

unfoldable pub file_bytes : Version → Contents → List ℕ
file_bytes v c = let t = c.tables in
    head_bytes v t.n t.m t.e
    ++ joined (start_bytes c.starts) t.n
    ++ joined (row_bytes t.kinds t.makes t.params t.firsts t.counts) t.m
    ++ joined (entry_bytes t.vars t.coefs) t.e
    ++ joined (bound_bytes c.lows c.highs) (bounded v t.n)

-- the counts are within their bounds, and no lent row is shorter than they ask
abbrev pub held : Version → Contents → Bool
held v c = let t = c.tables in let k = bounded v t.n in leb k (length c.lows) && leb k (length c.highs) && (sized t && leb t.n (length c.starts))

-- ── writing ──
abbrev pub write_lines : Version → Contents → List ℕ → List Line
write_lines v c bytes = let t = c.tables in whole 1 0 (held v c && leb (ends_at v t.n t.m t.e) (length bytes)) ∷ []

unfoldable pub write_verdict : Version → Contents → List ℕ → Verdict
write_verdict v c bytes = by_lines (write_lines v c bytes) accepted

-- the verdict, and the lent bytes after a call
abbrev pub write : Version → Contents → List ℕ → Verdict × List ℕ
write v c bytes =
    let t = c.tables in let w = write_verdict v c bytes in
    (w, leaves w (file_bytes v c ++ drop (ends_at v t.n t.m t.e) bytes) bytes)

-- ── reading ──
module _ (bytes : List ℕ) where
  -- the counts that a file states
  abbrev pub n_in : ℕ
  n_in = field 2 2 bytes

  abbrev pub m_in : ℕ
  m_in = field 2 4 bytes

  abbrev pub e_in : ℕ
  e_in = field 2 6 bytes

  -- a column of a table: the numbers of w bytes at, at + step, at + 2 step and on
  abbrev pub column : ℕ → ℕ → ℕ → ℕ → ℕ
  column w at step i = field w (at + step * i) bytes

  -- the columns of a file with n variables, m rows and e entries behind a header of h bytes, laid over lent rows
  module _ (h n m e : ℕ) where
    abbrev pub starts_from : List ℤ → List ℤ
    starts_from = over n (λ v. to_z w32 (column 4 h 4 v))

    abbrev pub tables_from : Tables → Tables
    tables_from t =
        lent n m e
        (over m (column 2 (rows_from h n) 12) t.kinds)
        (over m (column 2 (rows_from h n + 2) 12) t.makes)
        (over m (λ r. to_z w32 (column 4 (rows_from h n + 4) 12 r)) t.params)
        (over m (column 2 (rows_from h n + 8) 12) t.firsts)
        (over m (column 2 (rows_from h n + 10) 12) t.counts)
        (over e (column 2 (entries_from h n m) 4) t.vars)
        (over e (λ i. to_z w16 (column 2 (entries_from h n m + 2) 4 i)) t.coefs)

    -- the lowest of k variables, and the highest
    abbrev pub lows_from : ℕ → List ℤ → List ℤ
    lows_from k = over k (λ v. to_z w32 (column 4 (bounds_from h n m e) 8 v))

    abbrev pub highs_from : ℕ → List ℤ → List ℤ
    highs_from k = over k (λ v. to_z w32 (column 4 (bounds_from h n m e + 4) 8 v))

-- the field that version 2 has behind the total is right
abbrev pub bounds_told : Version → List ℕ → Bool
bounds_told version1 bytes = true
bounds_told version2 bytes = eqb (field 4 24 bytes) (bounds_from 28 (n_in bytes) (m_in bytes) (e_in bytes))

module _ (v : Version) (bytes : List ℕ) where
  -- where a file with these counts ends
  abbrev pub end_in : ℕ
  end_in = ends_at v (n_in bytes) (m_in bytes) (e_in bytes)

  -- 14, of the header's length, version and counts: the place is the wrong field's, or the length of a file that is shorter than a header
  abbrev pub head_lines : List Line
  head_lines =
      whole 14 (length bytes) (leb (head_of v) (length bytes)) ∷ whole 14 0 (eqb (field 2 0 bytes) (version_number v))
      ∷ whole 14 2 (between 1 (n_in bytes) 4096) ∷ whole 14 4 (leb (m_in bytes) (n_in bytes)) ∷ whole 14 6 (leb (e_in bytes) 16384) ∷ []

  -- and of where start values, rows and entries begin, the total, which is also the file's length, and where bounds begin
  abbrev pub header_lines : List Line
  header_lines = let h = head_of v in
      head_lines
      ++ (
      whole 14 8 (eqb (field 4 8 bytes) h) ∷ whole 14 12 (eqb (field 4 12 bytes) (rows_from h (n_in bytes)))
      ∷ whole 14 16 (eqb (field 4 16 bytes) (entries_from h (n_in bytes) (m_in bytes)))
      ∷ whole 14 20 (eqb (field 4 20 bytes) end_in && eqb (length bytes) end_in) ∷ whole 14 24 (bounds_told v bytes) ∷ [])

  unfoldable pub header : Verdict
  header = by_lines header_lines accepted

  -- laid over lent rows
  abbrev pub laid : ℕ → ℕ → ℕ → Contents → Contents
  laid n m e c = let h = head_of v in let k = bounded v n in
      contents (tables_from bytes h n m e c.tables) (starts_from bytes h n m e c.starts)
      (lows_from bytes h n m e k c.lows) (highs_from bytes h n m e k c.highs)

  -- the header is judged first, then whether the lent rows hold the model
  abbrev pub read_lines : Contents → List Line
  read_lines c = header_lines ++ (whole 1 0 (held v (counted (n_in bytes) (m_in bytes) (e_in bytes) c)) ∷ [])

  unfoldable pub read_verdict : Contents → Verdict
  read_verdict c = by_lines (read_lines c) accepted

  -- the verdict, and the lent rows after a call, under the counts of the file (0 if refused)
  abbrev pub read : Contents → Verdict × Contents
  read c = let w = read_verdict c in (w, leaves w (laid (n_in bytes) (m_in bytes) (e_in bytes) c) (counted 0 0 0 c))

-- ── a file of one version as one of another ──
-- the bytes of full bounds, of any variable
abbrev pub full_bytes : ℕ → List ℕ
full_bytes v = bytes_of 4 (of_z w32 lowest) ++ bytes_of 4 (of_z w32 highest)

-- the bounds of a variable in a file are full
abbrev pub full_in : Version → List ℕ → ℕ → Bool
full_in v bytes i = let at = bounds_from (head_of v) (n_in bytes) (m_in bytes) (e_in bytes) in
    eqb (column bytes 4 at 8 i) (of_z w32 lowest) && eqb (column bytes 4 (at + 4) 8 i) (of_z w32 highest)

module _ (from to : Version) (bytes : List ℕ) where
  -- the other version's header, start values, rows and entries as they stand, and full bounds where the other version has bounds
  unfoldable pub converted : List ℕ
  converted =
      head_bytes to (n_in bytes) (m_in bytes) (e_in bytes)
      ++ take (bounds_from 0 (n_in bytes) (m_in bytes) (e_in bytes)) (drop (head_of from) bytes)
      ++ joined full_bytes (bounded to (n_in bytes))

  -- the header, then bounds that would be lost, then a short buffer
  abbrev pub convert_lines : List ℕ → List Line
  convert_lines file = header_lines from bytes ++ (places 18 (bounded from (n_in bytes)) (full_in from bytes) ∷ whole 1 0 (leb (end_in to bytes) (length file)) ∷ [])

  unfoldable pub convert_verdict : List ℕ → Verdict
  convert_verdict file = by_lines (convert_lines file) accepted

  -- the verdict, the new file's length (0 if refused), and the lent buffer after a call
  abbrev pub convert : List ℕ → Verdict × (ℕ × List ℕ)
  convert file = let w = convert_verdict file in (w, leaves w (end_in to bytes, converted ++ drop (end_in to bytes) file) (0, file))

-- ── what a file holds of lent rows ──
-- each number is one of its field, as it is in lent rows of those widths
pub record Fitting (v : Version) (c : Contents) : Type 0 where
  pub starts : (i : ℕ) → i < c.tables.n → SFits w32 (get_or c.starts i (pos 0))
  pub rows : (r : ℕ) → r < c.tables.m → let t = c.tables in
      (nat t.kinds r < 65536) × (nat t.makes r < 65536) × SFits w32 (get_or t.params r (pos 0)) × (nat t.firsts r < 65536) × (nat t.counts r < 65536)
  pub entries : (i : ℕ) → i < c.tables.e → (nat c.tables.vars i < 65536) × SFits w16 (get_or c.tables.coefs i (pos 0))
  pub bounds : (i : ℕ) → i < bounded v c.tables.n → SFits w32 (get_or c.lows i (pos 0)) × SFits w32 (get_or c.highs i (pos 0))

-- without what the rows hold beyond the counts
abbrev pub cut : Version → Contents → Contents
cut v c = let n = c.tables.n in let k = bounded v n in contents (bare c.tables) (take n c.starts) (take k c.lows) (take k c.highs)
