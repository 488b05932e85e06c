-- The outcome of the call: the header is refused, or there is no room, or the file of what is saved and the list stand in front of what was lent.
-- Assumes nothing.
use Prim.Native.Nat.{ℕ, ◌+◌, ◌≤◌}
use native.Mathlib.Omega.{arith}
use mathlib.Core.Bool.{Bool, true, false, cond, not, ◌&&◌}
use mathlib.Core.List.{List, ◌++◌}
use mathlib.Core.Path.{◌≡◌, ap, ap₂, sym, ◌∙◌, subst}
use lib.Dec.{eqb, leb}
use lib.IntN.{ℤ, pos}
use lib.ListN.{length, get_or, drop, length-append}
use borrow.Author.Tests.{leb-true}
use Rattle.paper.specs.Checks.{Verdict, accepted, refused, require, Sound, by_lines}
use Rattle.paper.specs.File.{version1, bounds_from, ends_at, unbounded_contents, file_bytes, n_in, m_in, e_in, head_lines, write}
use Rattle.paper.specs.Lists.{any, those}
use Rattle.paper.specs.Tables.{Tables}
use Rattle.paper.proofs.Buffers.{length-below}
use Rattle.paper.proofs.Lists.{and_left, and_right}
use Rattle.paper.proofs.Sizes.{Sized, held_of}
use Rattle.paper.proofs.Those.{those-same}
use Rattle.paper.proofs.Written.{file-length, write-whole}
use Rattle.files.proofs.Counted.{counted-facts, counted_next, counted-stops}
use Rattle.std.specs.Prelude.{Ok, Err}
use Rattle.tables.specs.Answers.{refusal}
use Rattle.damage.specs.Saved.{given, start_given, is_saved, start_kept, saved_tables, saved_file, saved_list, dropped_rows, reset_values}
use Rattle.salvage.specs.Salvage.{salvage_verdict, salvage, saved, lends_to_salvage, left_by_salvage}
use Rattle.damage.specs.Flags.{flagged}
use Rattle.salvage.specs.Saving.{SavedReady}
use Rattle.damage.proofs.KeptRows.{keeps, kept-those, any-those, rows-kept}
use Rattle.damage.proofs.Packed.{Rows, packed-sized, packed-sound}

-- ── the header's version and counts ──
module _ (bytes : List ℕ) where
  module _ (head : by_lines (head_lines version1 bytes) accepted ≡ accepted) where
    pub rows-most : m_in bytes ≤ n_in bytes
    rows-most = (counted-facts version1 bytes head).m-most

    pub entries-most : e_in bytes ≤ 16384
    entries-most = (counted-facts version1 bytes head).e-most

    -- ── what stands is sound ──
    pub rows-stand : Rows (given bytes) (those (is_saved bytes) (m_in bytes))
    rows-stand = rows-kept bytes head (is_saved bytes) (m_in bytes) (λ r l e.
        sym (any-those (keeps bytes) (m_in bytes) r l) ∙ ap (any (eqb r)) (sym (kept-those bytes (m_in bytes))) ∙ and_left _ _ e)

    pub saved-sized : Sized (saved_tables bytes)
    saved-sized = packed-sized (given bytes) (those (is_saved bytes) (m_in bytes)) rows-stand

    pub saved-sound : Sound (saved_tables bytes)
    saved-sound = packed-sound (given bytes) (those (is_saved bytes) (m_in bytes)) rows-stand

  -- ── the call ──
  module _ (file list : List ℕ) where
    abbrev fits : Bool
    fits = leb (length (saved_file bytes)) (length file) && leb (length (saved_list bytes)) (length list)

    pub salvage-headed : {c p : ℕ} → by_lines (head_lines version1 bytes) accepted ≡ refused c p → left_by_salvage (Err (refusal c p)) file list ≡ salvage (lends_to_salvage bytes file list)
    unfolding salvage salvage_verdict
    salvage-headed h = simp (counted-stops version1 bytes h (require 1 0 fits accepted))

    module _ (head : by_lines (head_lines version1 bytes) accepted ≡ accepted) where
      verdict-is : salvage_verdict (lends_to_salvage bytes file list) ≡ require 1 0 fits accepted
      unfolding salvage_verdict
      verdict-is = counted_next version1 bytes head (require 1 0 fits accepted)

      pub salvage-short : fits ≡ false → left_by_salvage (Err (refusal 1 0)) file list ≡ salvage (lends_to_salvage bytes file list)
      unfolding salvage
      salvage-short h = simp (verdict-is ∙ ap (λ b. require 1 0 b accepted) h)

      pub salvage-done : fits ≡ true
          → left_by_salvage (Ok (saved (length (saved_file bytes)) (length (dropped_rows bytes)) (length (reset_values bytes))))
          (saved_file bytes ++ drop (length (saved_file bytes)) file) (saved_list bytes ++ drop (length (saved_list bytes)) list)
          ≡ salvage (lends_to_salvage bytes file list)
      unfolding salvage
      salvage-done h = simp (verdict-is ∙ ap (λ b. require 1 0 b accepted) h)

pub not-both : {number place : ℕ} → refused number place ≡ accepted → ⊥
not-both q = cc

-- ── from what is ready ──
module _ (bytes : List ℕ) (m : ℕ) (t : Tables) (starts : List ℤ) (row taken : List Bool) (R : SavedReady bytes m t starts row taken) where
  pub ready-sized : Sized t
  ready-sized = subst Sized (sym R.tables) (saved-sized bytes R.head)

  n-is : t.n ≡ n_in bytes
  n-is = ap (λ (s : Tables). s.n) R.tables

  pub ready-few : m ≤ 4096
  ready-few = let s = ready-sized in let h = rows-most bytes R.head in let e = R.rows in let n = n-is in omega arith

  starts-long : t.n ≤ length starts
  starts-long = let h = ap length R.values ∙ length-below (λ v. cond (start_kept bytes v) (get_or (start_given bytes) v (pos 0)) (pos 0)) (n_in bytes) in let e = n-is in omega arith

  file-is : saved_file bytes ≡ file_bytes version1 (unbounded_contents t starts)
  unfolding saved_file
  file-is = sym (ap₂ (λ t s. file_bytes version1 (unbounded_contents t s)) R.tables R.values)

  file-ends : length (saved_file bytes) ≡ ends_at version1 t.n t.m t.e
  file-ends = ap length file-is ∙ file-length version1 (unbounded_contents t starts)

  -- there are no bounds
  long-is : length (saved_file bytes) ≡ bounds_from 24 t.n t.m t.e
  long-is = let end = file-ends in omega arith

  rows_are : dropped_rows bytes ≡ flagged false row m
  rows_are = sym (those-same (λ r. not (get_or row r false)) (λ r. not (is_saved bytes r)) m (λ r l. ap not (R.standing r l)) ∙ ap (those (λ r. not (is_saved bytes r))) R.rows)

  values-are : reset_values bytes ≡ flagged false taken t.n
  values-are = sym (those-same (λ v. not (get_or taken v false)) (λ v. not (start_kept bytes v)) t.n (λ v l. ap not (R.kept v l)) ∙ ap (those (λ v. not (start_kept bytes v))) n-is)

  list-is : saved_list bytes ≡ flagged false row m ++ flagged false taken t.n
  unfolding saved_list
  list-is = ap₂ ◌++◌ rows_are values-are

  module _ (file list : List ℕ) {size rows values : ℕ} (e : size ≡ bounds_from 24 t.n t.m t.e) (p : rows ≡ length (flagged false row m)) (q : values ≡ length (flagged false taken t.n)) where
    fits-is : (leb size (length file) && leb (rows + values) (length list)) ≡ fits bytes file list
    fits-is =
        let l : rows + values ≡ length (saved_list bytes) = ap₂ ◌+◌ p q ∙ sym (length-append (flagged false row m) (flagged false taken t.n)) ∙ ap length (sym list-is) in
        ap₂ (λ a b. leb a (length file) && leb b (length list)) (e ∙ sym long-is) l

    pub ready-short : (leb size (length file) && leb (rows + values) (length list)) ≡ false → left_by_salvage (Err (refusal 1 0)) file list ≡ salvage (lends_to_salvage bytes file list)
    ready-short h = salvage-short bytes file list R.head (sym fits-is ∙ h)

    module _ (h : (leb size (length file) && leb (rows + values) (length list)) ≡ true) where
      -- there is room for the list
      pub ready-room : length (flagged false row m ++ flagged false taken t.n) ≤ length list
      ready-room = let l = leb-true (rows + values) (length list) (and_right (leb size (length file)) (leb (rows + values) (length list)) h) in let g = length-append (flagged false row m) (flagged false taken t.n) in omega arith

      -- and for the file, which is therefore written
      whole : ◌≡◌ {A = Verdict × List ℕ} (accepted, file_bytes version1 (unbounded_contents t starts) ++ drop (ends_at version1 t.n t.m t.e) file) (write version1 (unbounded_contents t starts) file)
      whole =
          let l = leb-true size (length file) (and_left (leb size (length file)) (leb (rows + values) (length list)) h) in
          write-whole version1 (unbounded_contents t starts) file (held_of version1 (unbounded_contents t starts) (record { sized = ready-sized; starts = starts-long; lows = omega arith; highs = omega arith })) (omega arith)

      pub ready-taken : {v : Verdict} {after : List ℕ} → ◌≡◌ {A = Verdict × List ℕ} (v, after) (write version1 (unbounded_contents t starts) file) → v ≡ accepted
      ready-taken w = ap (λ (z : Verdict × List ℕ). z.0) (w ∙ sym whole)

      pub ready-done : {v : Verdict} {after : List ℕ} {put : List ℕ}
          → put ≡ (flagged false row m ++ flagged false taken t.n) ++ drop (length (flagged false row m ++ flagged false taken t.n)) list
          → ◌≡◌ {A = Verdict × List ℕ} (v, after) (write version1 (unbounded_contents t starts) file)
          → left_by_salvage (Ok (saved size rows values)) after put ≡ salvage (lends_to_salvage bytes file list)
      ready-done {v} {after} {put} b w =
          let written : after ≡ file_bytes version1 (unbounded_contents t starts) ++ drop (ends_at version1 t.n t.m t.e) file = ap (λ (z : Verdict × List ℕ). z.1) (w ∙ sym whole) in
          same (e ∙ sym long-is) (p ∙ ap length (sym rows_are)) (q ∙ ap length (sym values-are))
          (written ∙ ap₂ (λ f k. f ++ drop k file) (sym file-is) (sym file-ends))
          (b ∙ ap (λ (f : List ℕ). f ++ drop (length f) list) (sym list-is))
          ∙ salvage-done bytes file list R.head (sym fits-is ∙ h)
        where
          same : {s r v s' r' v' : ℕ} {a b a' b' : List ℕ} → s ≡ s' → r ≡ r' → v ≡ v' → a ≡ a' → b ≡ b' → left_by_salvage (Ok (saved s r v)) a b ≡ left_by_salvage (Ok (saved s' r' v')) a' b'
          same i j k x y = cc
