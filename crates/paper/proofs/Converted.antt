-- A file of one version as one of another, by what each call finds, and back: the new file's header is accepted and its bounds are full, and
-- what it gives back is the old header, what lies behind it, and full bounds, all of which the old file holds. Assumes nothing.
use Prim.Native.Nat.{ℕ, zero, suc, ◌+◌, ◌*◌, ◌≤◌, ◌<◌}
use native.Mathlib.Omega.{arith}
use mathlib.Core.Bool.{Bool, true, ◌&&◌}
use mathlib.Core.List.{List, [], ◌∷◌, ◌++◌, append_assoc}
use mathlib.Core.Path.{◌≡◌, refl, ap, ap₂, sym, subst, ◌∙◌}
use lib.Dec.{eqb, leb}
use lib.IntN.{ℤ}
use lib.ListN.{length, take, drop, length-append, length-drop, get_or-append}
use lib.Seq.{sets, take_at, drop_at, length-take-le, get_or-append-add, get_or-take, get_or-drop}
use mir.Syntax.{w16, w32}
use mir.Val.{of_z, to_z}
use borrow.Author.Tests.{le-leb, lt-leb, eqb-true, eq-eqb}
use Rattle.paper.specs.Lists.{nat, joined, first_fail, over}
use Rattle.paper.specs.Tables.{Tables}
use Rattle.paper.specs.Checks.{Verdict, accepted, refused, check, require, leaves, lowest, highest}
use Rattle.paper.specs.File.{field, Version, head_of, bounded, bounds_from, ends_at, Contents, contents, counted, head_bytes, held, n_in, m_in, e_in, header_lines, header, column, starts_from, tables_from, laid, read, full_bytes, full_in, converted, end_in, convert_verdict, convert}
use Rattle.paper.proofs.Lists.{and_left, and_right}
use Rattle.paper.proofs.Least.{first_fail-none}
use Rattle.paper.proofs.Verdicts.{and_then, then-first, then-second, lines_then, Past, check-stops, check-passes, check-held, require-next, require-stops}
use Rattle.paper.proofs.Buffers.{over-same}
use Rattle.paper.proofs.Bytes.{length-joined, go_on, sets-front}
use Rattle.paper.proofs.Written.{head-length}
use Rattle.paper.proofs.Fields.{Stands, stands_self, stands-end, stands-join, stands-split, stands-part, Field, Holds, stands-table, table-stands}
use Rattle.paper.proofs.Reading.{headed, same-contents, read_done}
use Rattle.paper.proofs.Heads.{Within, head_fields, head-shows, head-stands, head-accepted, accepted-holds, accepted-within}
use Rattle.paper.proofs.RoundTrips.{as-was}

pub convert-refused : (from to : Version) (bytes file : List ℕ) → ((convert from to bytes file).0 ≡ accepted → ⊥) → (convert from to bytes file).1 ≡ (0, file)
convert-refused from to bytes file = as-was (convert_verdict from to bytes file) _ (0, file)

module _ (from to : Version) (bytes : List ℕ) where
  abbrev n : ℕ
  n = n_in bytes

  abbrev m : ℕ
  m = m_in bytes

  abbrev e : ℕ
  e = e_in bytes

  -- ── the parts of the new file ──
  abbrev pub middle : List ℕ
  middle = take (bounds_from 0 n m e) (drop (head_of from) bytes)

  abbrev pub full_part : Version → List ℕ
  full_part v = joined full_bytes (bounded v n)

  module _ (good : header from bytes ≡ accepted) where
    pub middle-length : length middle ≡ bounds_from 0 n m e
    middle-length =
        let whole = (headed from bytes good).whole in let left = length-drop (head_of from) bytes in
        length-take-le (bounds_from 0 n m e) (drop (head_of from) bytes) (omega arith)

    abbrev to_bounds : Version → List ℕ
    to_bounds v = head_bytes v n m e ++ middle

    middle-place : (v : Version) → head_of v ≡ 0 + length (head_bytes v n m e)
    middle-place v = let own = head-length v n m e in omega arith

    bounds-place : (v : Version) → bounds_from (head_of v) n m e ≡ 0 + length (to_bounds v)
    bounds-place v = let before = middle-place v in let own = middle-length in omega (arith, length-append (head_bytes v n m e) middle)

    parts-length : (v : Version) → length (to_bounds v ++ full_part v) ≡ ends_at v n m e
    parts-length v =
        let before = bounds-place v in let own = length-joined full_bytes 8 (λ i. refl) (bounded v n) in
        omega (arith, length-append (to_bounds v) (full_part v))

    pub converted-length : length (converted from to bytes) ≡ end_in to bytes
    unfolding converted
    converted-length = parts-length to

  -- ── the call ──
  module _ (file : List ℕ) where
    abbrev left : Verdict → ℕ × List ℕ
    left w = leaves w (end_in to bytes, converted from to bytes ++ drop (end_in to bytes) file) (0, file)

    abbrev room : Verdict
    room = require 1 0 (leb (end_in to bytes) (length file)) accepted

    abbrev behind : Verdict
    behind = check 18 (bounded from n) (full_in from bytes) room

    -- the header's verdict, and then those of the bounds and of the buffer
    pub convert-verdict : convert_verdict from to bytes file ≡ and_then (header from bytes) behind
    unfolding convert_verdict header
    convert-verdict = lines_then (header_lines from bytes) behind

    told : {w : Verdict} → convert_verdict from to bytes file ≡ w → ◌≡◌ {A = Verdict × (ℕ × List ℕ)} (w, left w) (convert from to bytes file)
    told h = ap (λ w. (w, left w)) (sym h)

    pub convert-headless : (number place : ℕ) → header from bytes ≡ refused number place
        → ◌≡◌ {A = Verdict × (ℕ × List ℕ)} (refused number place, (0, file)) (convert from to bytes file)
    convert-headless number place h = told (convert-verdict ∙ ap (λ w. and_then w behind) h)

    module _ (good : header from bytes ≡ accepted) where
      after : {w : Verdict} → behind ≡ w → convert_verdict from to bytes file ≡ w
      after h = convert-verdict ∙ ap (λ w. and_then w behind) good ∙ h

      pub convert-lost : (k : ℕ) → k ≡ first_fail (full_in from bytes) (bounded from n) → k < bounded from n
          → ◌≡◌ {A = Verdict × (ℕ × List ℕ)} (refused 18 k, (0, file)) (convert from to bytes file)
      convert-lost k f l = told (after (check-stops 18 (bounded from n) (full_in from bytes) room k f l))

      module _ (k : ℕ) (past : Past (full_in from bytes) (bounded from n) k) where
        full-then : behind ≡ room
        full-then = check-passes 18 (bounded from n) (full_in from bytes) room k past

        pub convert-narrow : length file < end_in to bytes → ◌≡◌ {A = Verdict × (ℕ × List ℕ)} (refused 1 0, (0, file)) (convert from to bytes file)
        convert-narrow l = told (after (full-then ∙ require-stops 1 0 (leb (end_in to bytes) (length file)) accepted (lt-leb (end_in to bytes) (length file) l)))

        pub convert-whole : end_in to bytes ≤ length file → ◌≡◌ {A = Verdict × (ℕ × List ℕ)} (accepted, left accepted) (convert from to bytes file)
        convert-whole l = told (after (full-then ∙ require-next 1 0 (leb (end_in to bytes) (length file)) accepted (le-leb (end_in to bytes) (length file) l)))

        -- three calls, each of which stores a part
        pub convert-done : {a b d : List ℕ} → end_in to bytes ≤ length file
            → a ≡ sets file 0 (head_bytes to n m e) → b ≡ sets a (head_of to) middle → d ≡ sets b (bounds_from (head_of to) n m e) (full_part to)
            → ◌≡◌ {A = Verdict × (ℕ × List ℕ)} (accepted, (end_in to bytes, d)) (convert from to bytes file)
        unfolding converted
        convert-done l p q r =
            let middle-in = go_on file 0 (head_bytes to n m e) middle (head_of to) p (middle-place good to) q in
            let all_in = go_on file 0 (to_bounds good to) (full_part to) (bounds_from (head_of to) n m e) middle-in (bounds-place good to) r in
            ap (λ z. (accepted, (end_in to bytes, z))) (all_in ∙ sets-front (converted from to bytes) file (end_in to bytes) (converted-length good) l) ∙ convert-whole l

-- ── full bounds, from a place on ──
abbrev full_at : List ℕ → ℕ → ℕ → Bool
full_at bytes at i = eqb (column bytes 4 at 8 i) (of_z w32 lowest) && eqb (column bytes 4 (at + 4) 8 i) (of_z w32 highest)

abbrev full_fields : ℕ → ℕ → List Field
full_fields at i = (at + 8 * i, 4, of_z w32 lowest) ∷ (at + 4 + 8 * i, 4, of_z w32 highest) ∷ []

-- ── an accepted call ──
module _ (from to : Version) (bytes file : List ℕ) (ok : (convert from to bytes file).0 ≡ accepted) where
  abbrev next : Verdict
  next = require 1 0 (leb (end_in to bytes) (length file)) accepted

  both : and_then (header from bytes) (check 18 (bounded from (n_in bytes)) (full_in from bytes) next) ≡ accepted
  both = sym (convert-verdict from to bytes file) ∙ ok

  good : header from bytes ≡ accepted
  good = then-first (header from bytes) (check 18 (bounded from (n_in bytes)) (full_in from bytes) next) both

  full : (i : ℕ) → i < bounded from (n_in bytes) → full_in from bytes i ≡ true
  full = check-held 18 (bounded from (n_in bytes)) (full_in from bytes) next (then-second (header from bytes) (check 18 (bounded from (n_in bytes)) (full_in from bytes) next) both)

  abbrev new : List ℕ
  new = converted from to bytes

  new-front : take (convert from to bytes file).1.0 (convert from to bytes file).1.1 ≡ new
  new-front = rw ok (take_at new (drop (end_in to bytes) file) (end_in to bytes) (converted-length from to bytes good))

  -- its header and its bounds stand where they should
  new-parts : Stands new 0 (head_bytes to (n_in bytes) (m_in bytes) (e_in bytes)) × Stands new (bounds_from (head_of to) (n_in bytes) (m_in bytes) (e_in bytes)) (full_part from to bytes to)
  unfolding converted
  new-parts =
      let (front, bounds) = stands-split new 0 (bounds_from (head_of to) (n_in bytes) (m_in bytes) (e_in bytes)) (to_bounds from to bytes good to) (full_part from to bytes to) (bounds-place from to bytes good to) (stands_self new) in
      ((stands-split new 0 (head_of to) (head_bytes to (n_in bytes) (m_in bytes) (e_in bytes)) (middle from to bytes) (middle-place from to bytes good to) front).0, bounds)

  within : Within (n_in bytes) (m_in bytes) (e_in bytes)
  within = accepted-within bytes from good

  new-head : Holds new (head_fields to (n_in bytes) (m_in bytes) (e_in bytes))
  new-head = head-shows new (n_in bytes) (m_in bytes) (e_in bytes) to within new-parts.0

  new-good : header to new ≡ accepted
  new-good = head-accepted new (n_in bytes) (m_in bytes) (e_in bytes) to within (converted-length from to bytes good) new-head

  -- its counts are the old file's
  counts-in : {A : Type 0} (f : ℕ → ℕ → ℕ → A) → f (n_in new) (m_in new) (e_in new) ≡ f (n_in bytes) (m_in bytes) (e_in bytes)
  counts-in f = let h = new-head in rw (h.1.0, h.1.1.0, h.1.1.1.0)

  -- its bounds are full
  new-bounds : (i : ℕ) → i < bounded to (n_in bytes) → Holds new (full_fields (bounds_from (head_of to) (n_in bytes) (m_in bytes) (e_in bytes)) i)
  new-bounds =
      let at = bounds_from (head_of to) (n_in bytes) (m_in bytes) (e_in bytes) in
      stands-table new 8 at (full_fields at) (λ j. refl) (λ j. omega arith) (bounded to (n_in bytes)) (λ j k. omega arith) new-parts.1

  new-full : (i : ℕ) → i < bounded to (n_in new) → full_in to new i ≡ true
  new-full i l =
      let h = new-bounds i (subst (λ k. i < k) (counts-in (λ n m e. bounded to n)) l) in
      counts-in (λ n m e. full_at new (bounds_from (head_of to) n m e) i) ∙ ap₂ ◌&&◌ (eq-eqb _ _ h.0) (eq-eqb _ _ h.1.0)

  -- what lies behind the header is the same in both
  same-middle : middle to from new ≡ middle from to bytes
  unfolding converted
  same-middle =
      let head = head_bytes to (n_in bytes) (m_in bytes) (e_in bytes) in
      counts-in (λ n m e. take (bounds_from 0 n m e) (drop (head_of to) new))
      ∙ ap (λ z. take (bounds_from 0 (n_in bytes) (m_in bytes) (e_in bytes)) (drop (head_of to) z)) (append_assoc head (middle from to bytes) (full_part from to bytes to))
      ∙ ap (take (bounds_from 0 (n_in bytes) (m_in bytes) (e_in bytes))) (drop_at head (middle from to bytes ++ full_part from to bytes to) (head_of to) (head-length to (n_in bytes) (m_in bytes) (e_in bytes)))
      ∙ take_at (middle from to bytes) (full_part from to bytes to) (bounds_from 0 (n_in bytes) (m_in bytes) (e_in bytes)) (middle-length from to bytes good)

  -- so each field there holds what it held
  byte-same : (k : ℕ) → k < bounds_from 0 (n_in bytes) (m_in bytes) (e_in bytes) → nat new (head_of to + k) ≡ nat bytes (head_of from + k)
  unfolding converted
  byte-same k l =
      let head = head_bytes to (n_in bytes) (m_in bytes) (e_in bytes) in let own = middle-length from to bytes good in
      ap (λ z. nat z (head_of to + k)) (append_assoc head (middle from to bytes) (full_part from to bytes to))
      ∙ ap (λ h. nat (head ++ (middle from to bytes ++ full_part from to bytes to)) (h + k)) (sym (head-length to (n_in bytes) (m_in bytes) (e_in bytes)))
      ∙ get_or-append-add head (middle from to bytes ++ full_part from to bytes to) k 0
      ∙ get_or-append (middle from to bytes) (full_part from to bytes to) 0 k (omega arith)
      ∙ get_or-take (bounds_from 0 (n_in bytes) (m_in bytes) (e_in bytes)) (drop (head_of from) bytes) k 0 l
      ∙ get_or-drop (head_of from) bytes k 0

  field-same : (w k i j : ℕ) → i ≡ head_of to + k → j ≡ head_of from + k → k + w ≤ bounds_from 0 (n_in bytes) (m_in bytes) (e_in bytes) → field w i new ≡ field w j bytes
  field-same zero k i j p q l = refl
  field-same (suc w) k i j p q l = ap₂ (λ x y. x + 256 * y) (rw (p, q) (byte-same k (omega arith))) (field-same w (k + 1) (suc i) (suc j) (omega arith) (omega arith) (omega arith))

  module _ (c : Contents) where
    abbrev filled : Contents
    filled =
        let k = bounded to (n_in bytes) in
        contents (tables_from bytes (head_of from) (n_in bytes) (m_in bytes) (e_in bytes) c.tables) (starts_from bytes (head_of from) (n_in bytes) (m_in bytes) (e_in bytes) c.starts)
        (over k (λ v. lowest) c.lows) (over k (λ v. highest) c.highs)

    laid_same : laid to new (n_in bytes) (m_in bytes) (e_in bytes) c ≡ filled
    laid_same =
        let n = n_in bytes in let m = m_in bytes in let e = e_in bytes in let t = c.tables in
        same-contents
        (over-same _ n c.starts _ (λ i l. ap (to_z w32) (field-same 4 (4 * i) _ _ (omega arith) (omega arith) (omega arith))))
        (over-same _ m t.kinds _ (λ r l. field-same 2 (4 * n + 12 * r) _ _ (omega arith) (omega arith) (omega arith)))
        (over-same _ m t.makes _ (λ r l. field-same 2 (4 * n + 2 + 12 * r) _ _ (omega arith) (omega arith) (omega arith)))
        (over-same _ m t.params _ (λ r l. ap (to_z w32) (field-same 4 (4 * n + 4 + 12 * r) _ _ (omega arith) (omega arith) (omega arith))))
        (over-same _ m t.firsts _ (λ r l. field-same 2 (4 * n + 8 + 12 * r) _ _ (omega arith) (omega arith) (omega arith)))
        (over-same _ m t.counts _ (λ r l. field-same 2 (4 * n + 10 + 12 * r) _ _ (omega arith) (omega arith) (omega arith)))
        (over-same _ e t.vars _ (λ i l. field-same 2 (4 * n + 12 * m + 4 * i) _ _ (omega arith) (omega arith) (omega arith)))
        (over-same _ e t.coefs _ (λ i l. ap (to_z w16) (field-same 2 (4 * n + 12 * m + 2 + 4 * i) _ _ (omega arith) (omega arith) (omega arith))))
        (over-same _ (bounded to n) c.lows (λ v. lowest) (λ i l. ap (to_z w32) (new-bounds i l).0))
        (over-same _ (bounded to n) c.highs (λ v. highest) (λ i l. ap (to_z w32) (new-bounds i l).1.0))

    pub same_read : held to (counted (n_in bytes) (m_in bytes) (e_in bytes) c) ≡ true → read to new c ≡ (accepted, filled)
    same_read h =
        sym (read_done to new c new-good (counts-in (λ n m e. held to (counted n m e c)) ∙ h) (sym (counts-in (λ n m e. laid to new n m e c) ∙ laid_same)))

-- it is read there to the same tables and start values, into any rows that hold it, and with full bounds; each reader is lent bounds of its own
pub same-model : (from to : Version) (bytes file : List ℕ) → (convert from to bytes file).0 ≡ accepted
    → (t : Tables) (starts lows₀ highs₀ lows highs : List ℤ) → let left = read from bytes (contents t starts lows₀ highs₀) in left.0 ≡ accepted
    → held to (counted (n_in bytes) (m_in bytes) (e_in bytes) (contents t starts lows highs)) ≡ true
    → let (end, moved) = (convert from to bytes file).1 in let there = left.1 in let k = bounded to (n_in bytes) in
    read to (take end moved) (contents t starts lows highs) ≡ (accepted, contents there.tables there.starts (over k (λ v. lowest) lows) (over k (λ v. highest) highs))
same-model from to bytes file ok t starts lows₀ highs₀ lows highs was room =
    rw (was, new-front from to bytes file ok) (same_read from to bytes file ok (contents t starts lows highs) room)

-- ── there and back ──
module _ (from to : Version) (bytes : List ℕ) (small : (i : ℕ) → nat bytes i < 256) (file : List ℕ) (ok : (convert from to bytes file).0 ≡ accepted) where
  abbrev right : header from bytes ≡ accepted
  right = good from to bytes file ok

  old-full : Stands bytes (bounds_from (head_of from) (n_in bytes) (m_in bytes) (e_in bytes)) (full_part from to bytes from)
  old-full =
      let at = bounds_from (head_of from) (n_in bytes) (m_in bytes) (e_in bytes) in
      table-stands bytes 8 at (full_fields at) (λ j. refl) (λ j. omega arith) small (bounded from (n_in bytes)) (λ i l.
      let low = eqb (column bytes 4 at 8 i) (of_z w32 lowest) in let high = eqb (column bytes 4 (at + 4) 8 i) (of_z w32 highest) in
      (eqb-true _ _ (and_left low high (full from to bytes file ok i l)), (eqb-true _ _ (and_right low high (full from to bytes file ok i l)), tt)))

  -- the old file is its header, what lies behind it, and full bounds
  old-parts : to_bounds from to bytes right from ++ full_part from to bytes from ≡ bytes
  old-parts =
      let whole = (headed from bytes right).whole in let own = parts-length from to bytes right from in
      let at = bounds_from (head_of from) (n_in bytes) (m_in bytes) (e_in bytes) in
      stands-end bytes 0 (to_bounds from to bytes right from ++ full_part from to bytes from) (omega arith)
      (stands-join bytes 0 at (to_bounds from to bytes right from) (full_part from to bytes from) (bounds-place from to bytes right from)
      (stands-join bytes 0 (head_of from) (head_bytes from (n_in bytes) (m_in bytes) (e_in bytes)) (middle from to bytes) (middle-place from to bytes right from)
      (head-stands bytes (n_in bytes) (m_in bytes) (e_in bytes) from small (accepted-holds bytes from right))
      (stands-part bytes (head_of from) (bounds_from 0 (n_in bytes) (m_in bytes) (e_in bytes)))) old-full)

  abbrev moved : List ℕ
  moved = converted from to bytes

  back-same : converted to from moved ≡ bytes
  unfolding converted
  back-same =
      counts-in from to bytes file ok (λ n m e. head_bytes from n m e ++ middle to from moved ++ joined full_bytes (bounded from n))
      ∙ ap (λ z. head_bytes from (n_in bytes) (m_in bytes) (e_in bytes) ++ z ++ full_part from to bytes from) (same-middle from to bytes file ok) ∙ old-parts

  pub back-again : (buffer : List ℕ) → length bytes ≤ length buffer → convert to from moved buffer ≡ (accepted, (length bytes, bytes ++ drop (length bytes) buffer))
  back-again buffer l =
      let whole = (headed from bytes right).whole in let end = counts-in from to bytes file ok (ends_at from) ∙ sym whole in
      sym (convert-whole to from moved buffer (new-good from to bytes file ok) (bounded to (n_in moved)) (first_fail-none (full_in to moved) (bounded to (n_in moved)) (new-full from to bytes file ok), omega arith) (omega arith))
      ∙ ap₂ (λ file k. (accepted, (k, file ++ drop k buffer))) back-same end

pub there_and_back : (from to : Version) (bytes : List ℕ) → ((i : ℕ) → nat bytes i < 256) → (file : List ℕ) → (convert from to bytes file).0 ≡ accepted
    → (buffer : List ℕ) → length bytes ≤ length buffer
    → let (end, moved) = (convert from to bytes file).1 in
    convert to from (take end moved) buffer ≡ (accepted, (length bytes, bytes ++ drop (length bytes) buffer))
there_and_back from to bytes small file ok buffer l = rw (new-front from to bytes file ok) (back-again from to bytes small file ok buffer l)
