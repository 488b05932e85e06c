-- A file shows a model if each field holds the model's number. The file of a model shows it, and a file that shows a model and is as long as
-- its total says is the file of that model: both by the same five lists of fields, whatever the version. Assumes nothing.
use Prim.Native.Nat.{ℕ, ◌+◌, ◌*◌, ◌<◌}
use native.Mathlib.Omega.{arith}
use mathlib.Core.List.{List, [], ◌∷◌}
use mathlib.Core.Path.{◌≡◌, refl}
use lib.IntN.{pos}
use lib.ListN.{length, get_or}
use mir.Syntax.{w16, w32}
use mir.Val.{of_z}
use mir.Facts.{Fits-of_z}
use Rattle.paper.specs.Lists.{nat}
use Rattle.paper.specs.File.{Version, head_of, bounded, rows_from, entries_from, bounds_from, ends_at, Contents, head_bytes, file_bytes, Fitting}
use Rattle.paper.proofs.Written.{start_part, row_part, entry_part, bound_part, to_rows, to_entries, to_bounds, starts-place, rows-place, entries-place, bounds-place, file-length}
use Rattle.paper.proofs.Fields.{Stands, stands_self, stands-end, stands-join, stands-split, Field, Holds, stands-table, table-stands}
use Rattle.paper.proofs.Heads.{Within, head_fields, head-shows, head-stands}

module _ (v : Version) (c : Contents) where
  open c use {tables, starts, lows, highs}
  open tables use {n, m, e, kinds, makes, params, firsts, counts, vars, coefs}

  abbrev h : ℕ
  h = head_of v

  -- ── the fields of each line, each with its place and width ──
  abbrev pub start_fields : ℕ → List Field
  start_fields i = (h + 4 * i, 4, of_z w32 (get_or starts i (pos 0))) ∷ []

  abbrev pub row_fields : ℕ → List Field
  row_fields r =
      (rows_from h n + 12 * r, 2, nat kinds r) ∷ (rows_from h n + 2 + 12 * r, 2, nat makes r) ∷ (rows_from h n + 4 + 12 * r, 4, of_z w32 (get_or params r (pos 0)))
      ∷ (rows_from h n + 8 + 12 * r, 2, nat firsts r) ∷ (rows_from h n + 10 + 12 * r, 2, nat counts r) ∷ []

  abbrev pub entry_fields : ℕ → List Field
  entry_fields i = (entries_from h n m + 4 * i, 2, nat vars i) ∷ (entries_from h n m + 2 + 4 * i, 2, of_z w16 (get_or coefs i (pos 0))) ∷ []

  abbrev pub bound_fields : ℕ → List Field
  bound_fields i = (bounds_from h n m e + 8 * i, 4, of_z w32 (get_or lows i (pos 0))) ∷ (bounds_from h n m e + 4 + 8 * i, 4, of_z w32 (get_or highs i (pos 0))) ∷ []

  pub record Shows (b : List ℕ) : Type 0 where
    pub head : Holds b (head_fields v n m e)
    pub start : (i : ℕ) → i < n → Holds b (start_fields i)
    pub row : (r : ℕ) → r < m → Holds b (row_fields r)
    pub entry : (i : ℕ) → i < e → Holds b (entry_fields i)
    pub bound : (i : ℕ) → i < bounded v n → Holds b (bound_fields i)

  -- ── from the bytes to the fields, and back ──
  module _ (b : List ℕ) where
    shows-of : Within n m e → Fitting v c → Stands b 0 (file_bytes v c) → Shows b
    unfolding file_bytes
    shows-of s fit a =
        let (front, bounds) = stands-split b 0 (bounds_from h n m e) (to_bounds v c) (bound_part v c) (bounds-place v c) a in
        let (above, entries) = stands-split b 0 (entries_from h n m) (to_entries v c) (entry_part v c) (entries-place v c) front in
        let (top, rows) = stands-split b 0 (rows_from h n) (to_rows v c) (row_part v c) (rows-place v c) above in
        let (head, values) = stands-split b 0 h (head_bytes v n m e) (start_part v c) (starts-place v c) top in
        record {
          head = head-shows b n m e v s head;
          start = stands-table b 4 h start_fields (λ i. refl) (λ i. omega arith) n (λ i l. ((Fits-of_z (fit.starts i l)).fits, tt)) values;
          row = stands-table b 12 (rows_from h n) row_fields (λ r. refl) (λ r. omega arith) m
              (λ r l. ((fit.rows r l).0, ((fit.rows r l).1, ((Fits-of_z (fit.rows r l).2).fits, ((fit.rows r l).3, ((fit.rows r l).4, tt)))))) rows;
          entry = stands-table b 4 (entries_from h n m) entry_fields (λ i. refl) (λ i. omega arith) e (λ i l. ((fit.entries i l).0, ((Fits-of_z (fit.entries i l).1).fits, tt))) entries;
          bound = stands-table b 8 (bounds_from h n m e) bound_fields (λ i. refl) (λ i. omega arith) (bounded v n)
              (λ i l. ((Fits-of_z (fit.bounds i l).0).fits, ((Fits-of_z (fit.bounds i l).1).fits, tt))) bounds;
        }

    stands_of : ((i : ℕ) → nat b i < 256) → Shows b → Stands b 0 (file_bytes v c)
    unfolding file_bytes
    stands_of small a =
        let head = head-stands b n m e v small a.head in
        let values = table-stands b 4 h start_fields (λ i. refl) (λ i. omega arith) small n a.start in
        let rows = table-stands b 12 (rows_from h n) row_fields (λ r. refl) (λ r. omega arith) small m a.row in
        let entries = table-stands b 4 (entries_from h n m) entry_fields (λ i. refl) (λ i. omega arith) small e a.entry in
        let bounds = table-stands b 8 (bounds_from h n m e) bound_fields (λ i. refl) (λ i. omega arith) small (bounded v n) a.bound in
        stands-join b 0 (bounds_from h n m e) (to_bounds v c) (bound_part v c) (bounds-place v c)
        (stands-join b 0 (entries_from h n m) (to_entries v c) (entry_part v c) (entries-place v c)
        (stands-join b 0 (rows_from h n) (to_rows v c) (row_part v c) (rows-place v c)
        (stands-join b 0 h (head_bytes v n m e) (start_part v c) (starts-place v c) head values) rows) entries) bounds

  pub file-shows : Within n m e → Fitting v c → Shows (file_bytes v c)
  file-shows s fit = shows-of (file_bytes v c) s fit (stands_self (file_bytes v c))

  pub shown-file : (b : List ℕ) → ((i : ℕ) → nat b i < 256) → length b ≡ ends_at v n m e → Shows b → file_bytes v c ≡ b
  shown-file b small whole a = let own = file-length v c in stands-end b 0 (file_bytes v c) (omega arith) (stands_of b small a)
