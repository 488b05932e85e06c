-- The outcome of a call that writes, whatever the version: refused, or the parts of the file stored one behind the other. Assumes nothing.
use Prim.Native.Nat.{ℕ, ◌+◌, ◌≤◌, ◌<◌}
use native.Mathlib.Omega.{arith}
use mathlib.Core.Bool.{true, false}
use mathlib.Core.List.{List, ◌++◌}
use mathlib.Core.Path.{◌≡◌, refl, ap, ◌∙◌}
use lib.ListN.{length, drop, length-append}
use lib.Seq.{sets}
use borrow.Author.Tests.{le-leb, lt-leb}
use Rattle.paper.specs.Checks.{Verdict, accepted, refused}
use Rattle.paper.specs.Lists.{joined}
use Rattle.paper.specs.File.{Version, version1, version2, head_of, bounded, rows_from, entries_from, bounds_from, ends_at, Contents, head_bytes, start_bytes, row_bytes, entry_bytes, bound_bytes, file_bytes, held, write_verdict, write}
use Rattle.paper.proofs.Bytes.{length-joined, go_on, sets-front}

pub head-length : (v : Version) (n m e : ℕ) → length (head_bytes v n m e) ≡ head_of v
head-length version1 n m e = refl
head-length version2 n m e = refl

module _ (v : Version) (c : Contents) where
  open c use {tables, starts, lows, highs}
  open tables use {n, m, e, kinds, makes, params, firsts, counts, vars, coefs}

  -- ── the parts of the file; each begins where those before it end ──
  abbrev pub start_part : List ℕ
  start_part = joined (start_bytes starts) n

  abbrev pub row_part : List ℕ
  row_part = joined (row_bytes kinds makes params firsts counts) m

  abbrev pub entry_part : List ℕ
  entry_part = joined (entry_bytes vars coefs) e

  abbrev pub bound_part : List ℕ
  bound_part = joined (bound_bytes lows highs) (bounded v n)

  abbrev pub to_rows : List ℕ
  to_rows = head_bytes v n m e ++ start_part

  abbrev pub to_entries : List ℕ
  to_entries = to_rows ++ row_part

  abbrev pub to_bounds : List ℕ
  to_bounds = to_entries ++ entry_part

  pub starts-place : head_of v ≡ 0 + length (head_bytes v n m e)
  starts-place = let own = head-length v n m e in omega arith

  pub rows-place : rows_from (head_of v) n ≡ 0 + length to_rows
  rows-place =
      let before = starts-place in let own = length-joined (start_bytes starts) 4 (λ i. refl) n in
      omega (arith, length-append (head_bytes v n m e) start_part)

  pub entries-place : entries_from (head_of v) n m ≡ 0 + length to_entries
  entries-place =
      let before = rows-place in let own = length-joined (row_bytes kinds makes params firsts counts) 12 (λ r. refl) m in
      omega (arith, length-append to_rows row_part)

  pub bounds-place : bounds_from (head_of v) n m e ≡ 0 + length to_bounds
  bounds-place =
      let before = entries-place in let own = length-joined (entry_bytes vars coefs) 4 (λ i. refl) e in
      omega (arith, length-append to_entries entry_part)

  pub file-length : length (file_bytes v c) ≡ ends_at v n m e
  unfolding file_bytes
  file-length =
      let before = bounds-place in let own = length-joined (bound_bytes lows highs) 8 (λ i. refl) (bounded v n) in
      omega (arith, length-append to_bounds bound_part)

  -- ── the call ──
  module _ (bytes : List ℕ) where
    pub write-short : held v c ≡ false → ◌≡◌ {A = Verdict × List ℕ} (refused 1 0, bytes) (write v c bytes)
    unfolding write_verdict
    write-short h = simp h

    pub write-narrow : held v c ≡ true → length bytes < ends_at v n m e → ◌≡◌ {A = Verdict × List ℕ} (refused 1 0, bytes) (write v c bytes)
    unfolding write_verdict
    write-narrow h l = simp (h, lt-leb (ends_at v n m e) (length bytes) l)

    pub write-whole : held v c ≡ true → ends_at v n m e ≤ length bytes
        → ◌≡◌ {A = Verdict × List ℕ} (accepted, file_bytes v c ++ drop (ends_at v n m e) bytes) (write v c bytes)
    unfolding write_verdict
    write-whole h l = simp (h, le-leb (ends_at v n m e) (length bytes) l)

    -- five calls, each of which stores a part
    pub write_done : {a b r s d : List ℕ} → held v c ≡ true → ends_at v n m e ≤ length bytes
        → a ≡ sets bytes 0 (head_bytes v n m e) → b ≡ sets a (head_of v) start_part → r ≡ sets b (rows_from (head_of v) n) row_part
        → s ≡ sets r (entries_from (head_of v) n m) entry_part → d ≡ sets s (bounds_from (head_of v) n m e) bound_part
        → ◌≡◌ {A = Verdict × List ℕ} (accepted, d) (write v c bytes)
    unfolding file_bytes
    write_done h l p q r s u =
        let starts-in = go_on bytes 0 (head_bytes v n m e) start_part (head_of v) p starts-place q in
        let rows_in = go_on bytes 0 to_rows row_part (rows_from (head_of v) n) starts-in rows-place r in
        let entries-in = go_on bytes 0 to_entries entry_part (entries_from (head_of v) n m) rows_in entries-place s in
        let all_in = go_on bytes 0 to_bounds bound_part (bounds_from (head_of v) n m e) entries-in bounds-place u in
        ap (λ z. (accepted, z)) (all_in ∙ sets-front (file_bytes v c) bytes (ends_at v n m e) file-length l) ∙ write-whole h l
