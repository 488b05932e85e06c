-- The test of a row as the code takes it, and what the loop over the rows carries on: the marks of the variables made, and how many entries are
-- kept. Assumes nothing.
use Prim.Native.Nat.{ℕ, ◌+◌, ◌≤◌, ◌<◌}
use native.Mathlib.Numerals.{add-one}
use native.Mathlib.Omega.{arith}
use mathlib.Core.Bool.{Bool, true, false, cond, not, ◌&&◌, ◌||◌, or-true, or-false, false≢true}
use mathlib.Core.List.{List, [], ◌∷◌, ◌++◌, map, append-nil}
use mathlib.Core.Path.{◌≡◌, refl, ap, ap₂, sym, ◌∙◌}
use lib.Dec.{eqb, leb}
use lib.ListN.{length, get_or, set, replicate, length-set, length-replicate, get_or-replicate}
use lib.Seq.{get_or-set_same, get_or-set_other}
use borrow.Author.Tests.{leb-true, eqb-true, eqb-false}
use Rattle.paper.specs.Lists.{any, total, nat, over}
use Rattle.paper.specs.Tables.{Tables}
use Rattle.paper.specs.File.{version1, ends_at, m_in, e_in}
use Rattle.paper.proofs.Lists.{and_left, and_right}
use Rattle.paper.proofs.Buffers.{Filled, filled-end, over-at}
use Rattle.paper.proofs.Scan.{any_append}
use Rattle.paper.proofs.Sizes.{Sized}
use Rattle.files.proofs.Counted.{counted-facts}
use Rattle.tables.proofs.Tests.{in_two}
use Rattle.damage.specs.Saved.{given, row_whole, entries_whole, alone_good, can_keep, kept_rows}
use Rattle.damage.specs.Scratch.{KeptFlags}
use Rattle.damage.specs.Keeping.{FileGives, Taken}
use Rattle.damage.proofs.Given.{over-long}
use Rattle.damage.proofs.KeptRows.{keeps, kept-those, any-those, sum-append}

-- ── tables that are what the file gives ──
enough : {A : Type 0} (n : ℕ) (f : ℕ → A) → n ≤ length (over n f [])
enough n f = let h = over-long n f in omega arith

pub gives-sized : {bytes : List ℕ} {t : Tables} → FileGives bytes t → Sized t
gives-sized {bytes} g = let h = counted-facts version1 bytes g.head in rw g.is (record {
  n-some = h.n-some;
  n-most = h.n-most;
  m-most = h.m-most;
  e-most = h.e-most;
  kinds = enough (m_in bytes) _;
  makes = enough (m_in bytes) _;
  params = enough (m_in bytes) _;
  firsts = enough (m_in bytes) _;
  counts = enough (m_in bytes) _;
  vars = enough (e_in bytes) _;
  coefs = enough (e_in bytes) _;
})

-- ── the test of a row ──
-- the row and its entries are whole, in the words of the tables
abbrev pub whole : List ℕ → Tables → ℕ → Bool
whole bytes t r = let end = nat t.firsts r + nat t.counts r in row_whole bytes r && (leb end t.e && leb (ends_at version1 t.n t.m end) (length bytes))

pub whole-inside : (bytes : List ℕ) (t : Tables) (r : ℕ) → whole bytes t r ≡ true → nat t.firsts r + nat t.counts r ≤ t.e
whole-inside bytes t r h =
    let end = nat t.firsts r + nat t.counts r in let there = leb (ends_at version1 t.n t.m end) (length bytes) in
    leb-true end t.e (and_left (leb end t.e) there (and_right (row_whole bytes r) (leb end t.e && there) h))

module _ (bytes : List ℕ) (t : Tables) (r : ℕ) (earlier : List ℕ) where
  abbrev again : Bool
  again = any (λ q. eqb (nat t.makes q) (nat t.makes r)) earlier

  abbrev few : Bool
  few = leb (total (map (nat t.counts) earlier) + nat t.counts r) 16384

  module _ (g : FileGives bytes t) where
    tests : can_keep bytes earlier r ≡ (whole bytes t r && ((alone_good t r && not again) && few))
    tests = rw g.is (in_two (row_whole bytes r) (entries_whole bytes r ∷ []) (alone_good (given bytes) r) (_ ∷ _ ∷ []))

    pub not-whole : whole bytes t r ≡ false → false ≡ can_keep bytes earlier r
    not-whole h = sym (tests ∙ ap (◌&& ((alone_good t r && not again) && few)) h)

    pub not-alone : whole bytes t r ≡ true → alone_good t r ≡ false → false ≡ can_keep bytes earlier r
    not-alone h k = sym (tests ∙ ap₂ (λ a b. a && ((b && not again) && few)) h k)

    module _ {made : List Bool} {used : ℕ} (s : Taken t.makes t.counts earlier made used) where
      pub keep-last : whole bytes t r ≡ true → alone_good t r ≡ true → nat t.makes r < 4096
          → (not (get_or made (nat t.makes r) false) && leb (used + nat t.counts r) 16384) ≡ can_keep bytes earlier r
      keep-last h k low = ap₂ (λ a b. not a && leb (b + nat t.counts r) 16384) (s.at (nat t.makes r) low) s.sum ∙ sym (tests ∙ ap₂ (λ a b. a && ((b && not again) && few)) h k)

      pub keep-few : can_keep bytes earlier r ≡ true → used + nat t.counts r ≤ 16384
      keep-few h =
          let sum = s.sum in
          let fits = leb-true (total (map (nat t.counts) earlier) + nat t.counts r) 16384 (and_right (alone_good t r && not again) few (and_right (whole bytes t r) ((alone_good t r && not again) && few) (sym tests ∙ h))) in
          omega arith

-- ── what is carried on ──
pub taken_start : (makes counts : List ℕ) → Taken makes counts [] (replicate 4096 false) 0
taken_start makes counts = record {
  full = length-replicate {A = Bool} 4096 false;
  at = λ v h. get_or-replicate 4096 v false false h;
  sum = refl;
  few = omega arith;
}

module _ {makes counts rows : List ℕ} {made : List Bool} {used : ℕ} (s : Taken makes counts rows made used) (r : ℕ) where
  marked : (v : ℕ) → v < 4096 → get_or (set made (nat makes r) true) v false ≡ any (λ q. eqb (nat makes q) v) (rows ++ (r ∷ []))
  marked v l = go (eqb (nat makes r) v) refl ∙ sym (any_append (λ q. eqb (nat makes q) v) rows (r ∷ []))
    where
      go : (b : Bool) → eqb (nat makes r) v ≡ b → get_or (set made (nat makes r) true) v false ≡ (any (λ q. eqb (nat makes q) v) rows || (b || false))
      go true q =
          let same = eqb-true (nat makes r) v q in let full = s.full in
          ap (λ x. get_or (set made (nat makes r) true) x false) (sym same) ∙ get_or-set_same made (nat makes r) true false (omega arith) ∙ sym (or-true (any (λ q. eqb (nat makes q) v) rows))
      go false q = get_or-set_other made (nat makes r) v true false (λ z. eqb-false (nat makes r) v q (sym z)) ∙ s.at v l ∙ sym (or-false (any (λ q. eqb (nat makes q) v) rows))

  pub taken_next : (kept : Bool) → (kept ≡ true → used + nat counts r ≤ 16384)
      → Taken makes counts (rows ++ cond kept (r ∷ []) []) (cond kept (set made (nat makes r) true) made) (cond kept (used + nat counts r) used)
  taken_next true h = record {
    full = length-set made (nat makes r) true ∙ s.full;
    at = marked;
    sum = let old = s.sum in omega (arith, sum-append (nat counts) rows (r ∷ []));
    few = h refl;
  }
  taken_next false h = rw append-nil s

module _ {bytes : List ℕ} {t : Tables} where
  -- one turn of the loop: the row is kept, or not
  pub taken-kept : FileGives bytes t → (r : ℕ) {made made' : List Bool} {used used' : ℕ} → Taken t.makes t.counts (kept_rows bytes r) made used
      → can_keep bytes (kept_rows bytes r) r ≡ true → used' ≡ used + nat t.counts r → made' ≡ set made (nat t.makes r) true
      → Taken t.makes t.counts (kept_rows bytes (r + 1)) made' used'
  taken-kept g r s k u m = rw (u, m, add-one r, k) (taken_next s r true (λ e. keep-few bytes t r (kept_rows bytes r) g s k))

  pub taken-passed : FileGives bytes t → (r : ℕ) {made : List Bool} {used : ℕ} → Taken t.makes t.counts (kept_rows bytes r) made used
      → can_keep bytes (kept_rows bytes r) r ≡ false → Taken t.makes t.counts (kept_rows bytes (r + 1)) made used
  taken-passed g r s k = rw (add-one r, k) (taken_next s r false (λ e. absurd (false≢true e)))

  -- its end
  pub kept-filled : {before row : List Bool} {i : ℕ} → Filled (keeps bytes) before row i → i ≡ t.m → KeptFlags bytes t row
  kept-filled {before} {row} {i} s e = record {
    at = λ r l.
        ap (λ x. get_or x r false) (filled-end (keeps bytes) before row i t.m s e) ∙ over-at (keeps bytes) t.m before r false l
        ∙ sym (any-those (keeps bytes) t.m r l) ∙ ap (any (eqb r)) (sym (kept-those bytes t.m));
  }
