-- What is saved of a damaged model file of version 1: its rows that are whole and good and that can be numbered, the start values that build takes, and the
-- list of what was not saved. Of the header only the counts are looked at, and everything is placed by these counts. Assumes nothing.
use Rattle.std.specs.Prelude.{ℕ, zero, suc, ◌+◌, Bool, cond, not, ◌&&◌, List, [], ◌∷◌, ◌++◌, map, ℤ, pos, eqb, leb, length, get_or, take}
use Rattle.paper.specs.Lists.{any, every, total, nat, those, joined, below}
use Rattle.paper.specs.Tables.{Tables, lent, part, ends, values_in}
use Rattle.paper.specs.Checks.{kind_good, shape_good, number_good, start_good}
use Rattle.paper.specs.File.{version1, rows_from, entries_from, ends_at, unbounded_contents, file_bytes, n_in, m_in, e_in, starts_from, tables_from}

-- ── packing ──
-- the tables of these rows alone, in this order, with their parts one after another
abbrev pub packed : Tables → List ℕ → Tables
packed t rows =
    let counts = map (nat t.counts) rows in
    lent t.n (length rows) (total counts)
    (map (nat t.kinds) rows)
    (map (nat t.makes) rows)
    (map (λ r. get_or t.params r (pos 0)) rows)
    (below (λ k. total (take k counts)) (length rows))
    counts
    (joined (λ k. part t (nat rows k) t.vars) (length rows))
    (joined (λ k. part t (nat rows k) t.coefs) (length rows))

-- checks 2 to 4 of a row on its own, whatever its first entry is
abbrev pub alone_good : Tables → ℕ → Bool
alone_good t r = let alone = packed t (r ∷ []) in every (kind_good alone 0 ∷ shape_good alone 0 ∷ number_good alone 0 ∷ [])

module _ (bytes : List ℕ) where
  -- ── what the file gives: its tables and start values, a missing byte being 0 ──
  abbrev pub given : Tables
  given = tables_from bytes 24 (n_in bytes) (m_in bytes) (e_in bytes) (lent 0 0 0 [] [] [] [] [] [] [])

  abbrev pub start_given : List ℤ
  start_given = starts_from bytes 24 (n_in bytes) (m_in bytes) (e_in bytes) []

  -- a start value, a row, and the entries of a row are whole in the file
  abbrev pub start_whole : ℕ → Bool
  start_whole v = leb (rows_from 24 (suc v)) (length bytes)

  abbrev pub row_whole : ℕ → Bool
  row_whole r = leb (entries_from 24 (n_in bytes) (suc r)) (length bytes)

  abbrev pub entries_whole : ℕ → Bool
  entries_whole r = let end = nat given.firsts r + nat given.counts r in leb end (e_in bytes) && leb (ends_at version1 (n_in bytes) (m_in bytes) end) (length bytes)

  -- ── the rows kept ──
  -- a row can be kept after these: it is whole and good, none of them makes its variable, and the entries stay within 16,384
  abbrev pub can_keep : List ℕ → ℕ → Bool
  can_keep earlier r = every (
      row_whole r ∷ entries_whole r ∷ alone_good given r ∷ not (any (λ q. eqb (nat given.makes q) (nat given.makes r)) earlier)
      ∷ leb (total (map (nat given.counts) earlier) + nat given.counts r) 16384 ∷ [])

  -- those of the rows below k, in file order
  abbrev pub kept_rows : ℕ → List ℕ
  kept_rows zero = []
  kept_rows (suc r) = kept_rows r ++ cond (can_keep (kept_rows r) r) (r ∷ []) []

  -- the row is kept, and its variable has a topological number among those kept, with every closed chain counted as circular
  abbrev pub is_saved : ℕ → Bool
  is_saved r = let rows = kept_rows (m_in bytes) in any (eqb r) rows && ends (packed given rows) (nat given.makes r)

  -- ── what is saved: these rows, and the start values that are whole and that build takes ──
  abbrev pub saved_tables : Tables
  saved_tables = packed given (those is_saved (m_in bytes))

  abbrev pub start_kept : ℕ → Bool
  start_kept v = start_whole v && start_good saved_tables (values_in saved_tables start_given) v

  abbrev pub saved_starts : List ℤ
  saved_starts = below (λ v. cond (start_kept v) (get_or start_given v (pos 0)) (pos 0)) (n_in bytes)

  unfoldable pub saved_file : List ℕ
  saved_file = file_bytes version1 (unbounded_contents saved_tables saved_starts)

  -- ── the list: rows dropped, by row; then start values missing or reset, by variable ──
  abbrev pub dropped_rows : List ℕ
  dropped_rows = those (λ r. not (is_saved r)) (m_in bytes)

  abbrev pub reset_values : List ℕ
  reset_values = those (λ v. not (start_kept v)) (n_in bytes)

  unfoldable pub saved_list : List ℕ
  saved_list = dropped_rows ++ reset_values
