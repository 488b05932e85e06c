-- A buffer that holds the bytes of a file as far as it goes, and 0 where the file has ended, gives what the file gives: a field is its bytes.
-- Assumes nothing.
use Prim.Native.Nat.{ℕ, zero, suc, ◌+◌, ◌-◌, ◌*◌, ◌≤◌, ◌<◌, min}
use native.Mathlib.Omega.{arith}
use mathlib.Core.Bool.{Bool, true, false}
use mathlib.Core.List.{List, [], ◌++◌, append-nil}
use lib.Dec.{ltb}
use borrow.Author.Tests.{ltb-true, ltb-false}
use borrow.Rule.Slice.PartMut.{post_of}
use Rattle.std.proofs.Common.{length-take-le, length-append}
use Rattle.std.proofs.lemmas.List.{get_or_append_left, get_or-append_right, get_or-take, get_or-replicate, ext_get_or, length-replicate}
use mathlib.Core.Path.{◌≡◌, refl, ap, ap₂, sym, ◌∙◌}
use lib.IntN.{ℤ}
use lib.ListN.{length, take, drop, replicate, length-drop, drop_of_length-le, get_or-eq_default}
use lib.Seq.{take_at}
use mir.Syntax.{w16, w32}
use mir.Val.{to_z}
use Rattle.paper.specs.Lists.{nat, below}
use Rattle.paper.specs.Tables.{Tables}
use Rattle.paper.specs.Checks.{accepted, by_lines}
use Rattle.paper.specs.File.{field, version1, rows_from, entries_from, ends_at, unbounded_contents, head_lines, n_in, m_in, e_in, laid, cut}
use Rattle.paper.proofs.Buffers.{length-below, get_d-below, over-same}
use Rattle.paper.proofs.Reading.{same-contents}
use Rattle.damage.specs.Scratch.{Laid}
use Rattle.damage.proofs.Given.{laid-given}

-- ── a buffer filled with bytes as far as they go, and with 0 behind them ──
padded-at : (bytes : List ℕ) (k j : ℕ) → k ≤ length bytes → (0 < j → length bytes ≤ k) → (i : ℕ) → i < k + j → nat (take k bytes ++ replicate j 0) i ≡ nat bytes i
padded-at bytes k j few ended i low = go (ltb i k) refl
  where
    long : length (take k bytes) ≡ k
    long = length-take-le k bytes few

    go : (b : Bool) → ltb i k ≡ b → nat (take k bytes ++ replicate j 0) i ≡ nat bytes i
    go true e = let l = ltb-true i k e in get_or_append_left (take k bytes) (replicate j 0) 0 i (omega (arith, long)) ∙ get_or-take k bytes i 0 l
    go false e =
        let l = ltb-false i k e in
        get_or-append_right (take k bytes) (replicate j 0) k i 0 long l ∙ get_or-replicate j (i - k) 0 0 (omega arith) ∙ sym (get_or-eq_default bytes 0 (let h = ended (omega arith) in omega arith))

pub padded : (bytes out : List ℕ) (k : ℕ) {front back : List ℕ} → k ≡ min (length bytes) (length out) → front ≡ take k bytes → back ≡ replicate (length (front ++ drop k out) - k) 0
    → let first = front ++ drop k out in let all = take k first ++ (back ++ post_of k (length first - k) first) in all ≡ below (nat bytes) (length all)
padded bytes out k {front} {back} m f b =
    let few : k ≤ length bytes = omega arith in
    let long : length front ≡ k = ap length f ∙ length-take-le k bytes few in
    let behind = length-drop k out in
    let size : length (front ++ drop k out) ≡ length out = length-append front (drop k out) ∙ omega arith in
    let head : take k (front ++ drop k out) ≡ take k bytes = take_at front (drop k out) k long ∙ f in
    let tail : post_of k (length (front ++ drop k out) - k) (front ++ drop k out) ≡ [] = drop_of_length-le (drop k (front ++ drop k out)) (omega (arith, length-drop k (front ++ drop k out))) in
    let rest : back ≡ replicate (length out - k) 0 = b ∙ ap (λ n. replicate (n - k) 0) size in
    rw (head, tail, rest, append-nil {A = ℕ} (replicate (length out - k) 0))
    (whole (omega (arith, length-append (take k bytes) (replicate (length out - k) 0), length-take-le k bytes few, length-replicate {A = ℕ} (length out - k) 0)))
  where
    whole : k ≤ length out → take k bytes ++ replicate (length out - k) 0 ≡ below (nat bytes) (length (take k bytes ++ replicate (length out - k) 0))
    whole fits =
        let xs = take k bytes ++ replicate (length out - k) 0 in
        let few : k ≤ length bytes = omega arith in
        let sum : length xs ≡ k + (length out - k) = length-append (take k bytes) (replicate (length out - k) 0) ∙ ap₂ ◌+◌ (length-take-le k bytes few) (length-replicate {A = ℕ} (length out - k) 0) in
        ext_get_or 0 xs (below (nat bytes) (length xs)) (sym (length-below (nat bytes) (length xs)))
        (λ i l. padded-at bytes k (length out - k) few (λ h. omega arith) i (omega arith) ∙ sym (get_d-below (nat bytes) (length xs) i 0 l))

module _ (bytes : List ℕ) {file : List ℕ} (p : file ≡ below (nat bytes) (length file)) where
  byte-same : (i : ℕ) → i < length file → nat file i ≡ nat bytes i
  byte-same i l = ap (λ b. nat b i) p ∙ get_d-below (nat bytes) (length file) i 0 l

  field-same : (w k : ℕ) → k + w ≤ length file → field w k file ≡ field w k bytes
  field-same zero k h = refl
  field-same (suc w) k h = ap₂ (λ a b. a + 256 * b) (byte-same k (omega arith)) (field-same w (suc k) (omega arith))

  -- what is laid from the buffer over lent rows
  laid_same : (n m e : ℕ) → ends_at version1 n m e ≤ length file → (t : Tables) (starts : List ℤ) → laid version1 file n m e (unbounded_contents t starts) ≡ laid version1 bytes n m e (unbounded_contents t starts)
  laid_same n m e long t starts =
      same-contents
      (over-same _ n starts _ (λ v l. ap (to_z w32) (field-same 4 (24 + 4 * v) (omega arith))))
      (over-same _ m t.kinds _ (λ r l. field-same 2 (rows_from 24 n + 12 * r) (omega arith)))
      (over-same _ m t.makes _ (λ r l. field-same 2 (rows_from 24 n + 2 + 12 * r) (omega arith)))
      (over-same _ m t.params _ (λ r l. ap (to_z w32) (field-same 4 (rows_from 24 n + 4 + 12 * r) (omega arith))))
      (over-same _ m t.firsts _ (λ r l. field-same 2 (rows_from 24 n + 8 + 12 * r) (omega arith)))
      (over-same _ m t.counts _ (λ r l. field-same 2 (rows_from 24 n + 10 + 12 * r) (omega arith)))
      (over-same _ e t.vars _ (λ i l. field-same 2 (entries_from 24 n m + 4 * i) (omega arith)))
      (over-same _ e t.coefs _ (λ i l. ap (to_z w16) (field-same 2 (entries_from 24 n m + 2 + 4 * i) (omega arith))))
      refl
      refl

  pub laid-padded : (n m e : ℕ) → ends_at version1 n m e ≤ length file → by_lines (head_lines version1 bytes) accepted ≡ accepted → (n ≡ n_in bytes) × (m ≡ m_in bytes) × (e ≡ e_in bytes)
      → (t : Tables) (starts : List ℤ) {after : Tables} {values : List ℤ} → unbounded_contents after values ≡ laid version1 file n m e (unbounded_contents t starts) → Laid bytes after values
  laid-padded n m e long head (i, j, k) t starts q = record {
    head = head;
    is =
        let c = unbounded_contents t starts in
        let stated : laid version1 bytes n m e c ≡ laid version1 bytes (n_in bytes) (m_in bytes) (e_in bytes) c = rw (i, j, k) in
        ap (cut version1) (q ∙ laid_same n m e long t starts ∙ stated) ∙ laid-given bytes t starts;
  }
