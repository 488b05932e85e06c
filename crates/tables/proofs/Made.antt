-- The row of makers, filled from the last row to the first, so that the first that makes a variable stays; and what the filled row says.
-- Assumes nothing.
use Prim.Native.Nat.{ℕ, zero, suc, ◌+◌, ◌≤◌, ◌<◌}
use native.Mathlib.Omega.{arith}
use mathlib.Core.Bool.{Bool, true, false, cond, not}
use native.Mathlib.Numerals.{add-one}
use mathlib.Core.List.{List, [], ◌∷◌, ◌++◌}
use mathlib.Core.Path.{◌≡◌, refl, ap, ap₂, sym, ◌∙◌}
use lib.Dec.{eqb, ltb, leb-suc-suc, eqb-suc-zero}
use lib.ListN.{length, take, drop, set, replicate, length-take, drop_of_length-le}
use Rattle.std.proofs.lemmas.List.{replicate-append-replicate}
use lib.Seq.{get_or-take, length-take-le, drop-cons}
use borrow.Author.Tests.{lt-ltb}
use Rattle.paper.specs.Lists.{nat, seek, below, over}
use Rattle.paper.specs.Tables.{Tables, row_of, is_made}
use Rattle.paper.specs.Checks.{Sound}
use Rattle.paper.proofs.Buffers.{over-length, over-at, over-over, over-same, over-set}
use Rattle.paper.proofs.Accept.{sound-row, row-of, row-is-made}
use Rattle.tables.specs.Makers.{AllBelow, maker_of, Makers}

-- ── as the loop fills it ──
-- one more than the first place that holds v, counted from i; 0 if none does
abbrev first_at : ℕ → List ℕ → ℕ → ℕ
first_at i [] v = 0
first_at i (x ∷ xs) v = cond (eqb x v) (suc i) (first_at (suc i) xs v)

first-seek : (i : ℕ) (xs : List ℕ) (v : ℕ) → first_at i xs v ≡ cond (ltb (seek v xs) (length xs)) (suc (i + seek v xs)) 0
first-seek i [] v = refl
first-seek i (x ∷ xs) v = go (eqb x v) (first-seek (suc i) xs v)
  where
    go : (b : Bool) → first_at (suc i) xs v ≡ cond (ltb (seek v xs) (length xs)) (suc (suc i + seek v xs)) 0
        → cond b (suc i) (first_at (suc i) xs v) ≡ cond (ltb (cond b zero (suc (seek v xs))) (suc (length xs))) (suc (i + cond b zero (suc (seek v xs)))) 0
    go true h = rw (lt-ltb 0 (suc (length xs)) (omega arith)) (omega arith)
    go false h = h ∙ ap₂ (λ b k. cond b (suc k) 0) (sym (leb-suc-suc (suc (seek v xs)) (length xs))) (omega arith)

-- the same among the rows from `row` on
abbrev pub maker_from : ℕ → List ℕ → ℕ → ℕ → ℕ
maker_from m makes row = first_at row (drop row (take m makes))

-- a row cleared: its first n places filled with zeros
pub below-one : {A : Type 0} (x : A) (n : ℕ) → replicate n x ≡ below (λ v. x) n
below-one x zero = refl
below-one x (suc n) = ap (λ k. replicate k x) (sym (add-one n)) ∙ sym (replicate-append-replicate n 1 x) ∙ ap (◌++ (x ∷ [])) (below-one x n)

pub cleared : (n : ℕ) (old part : List ℕ) → n ≤ length old → part ≡ replicate (length (take n old)) 0 → part ++ drop n old ≡ over n (λ v. 0) old
cleared n old part h e = ap (◌++ drop n old) (e ∙ ap (λ k. replicate k 0) (length-take-le n old h) ∙ below-one 0 n)

-- n places of `by` hold the makers among the rows from `row` on, and the rest what stood before
pub record Filling (n m : ℕ) (makes before by : List ℕ) (row : ℕ) : Type 0 where
  pub low : row ≤ m
  pub room : n ≤ length before
  pub is : by ≡ over n (maker_from m makes row) before

module _ (n m : ℕ) (makes before : List ℕ) where
  -- from a row of zeros on
  pub filling-start : (old : List ℕ) → n ≤ length old → before ≡ over n (λ v. 0) old → Filling n m makes before before m
  filling-start old h e = record {
    low = omega arith;
    room = let long = ap length e ∙ over-length (λ v. 0) n old h in omega arith;
    is =
        let none : drop m (take m makes) ≡ [] = drop_of_length-le (take m makes) {i = m} (simp length-take (omega arith)) in
        rw none (e ∙ sym (over-over (λ v. 0) n old (λ v. 0)) ∙ ap (over n (λ v. 0)) (sym e));
  }

  -- row r is written over those after it
  pub filling-next : (by : List ℕ) (row r x v : ℕ) → Filling n m makes before by row → row ≡ suc r → m ≤ length makes → x ≡ row → v ≡ nat makes r → v < n
      → Filling n m makes before (set by v x) r
  filling-next by row r x v f p h q e l = record {
    low = let low = f.low in omega arith;
    room = f.room;
    is =
        let low = f.low in
        let own = get_or-take m makes r 0 (omega arith) in
        let here = drop-cons (take m makes) r 0 (simp length-take (omega arith)) ∙ ap (◌∷ drop (suc r) (take m makes)) own in
        ap (λ b. set b v x) f.is ∙ over-set (maker_from m makes row) n before v x l
        ∙ over-same (λ w. cond (eqb v w) x (maker_from m makes row w)) n before (maker_from m makes r) (λ w k. rw (here, e, q, p) refl);
  }

  pub filling-end : (old by : List ℕ) (row : ℕ) → Filling n m makes before by row → row ≡ 0 → m ≤ length makes → before ≡ over n (λ v. 0) old
      → by ≡ over n (maker_of m makes) old
  filling-end old by row f z h e =
      f.is ∙ ap (λ r. over n (maker_from m makes r) before) z ∙ over-same (maker_from m makes 0) n before (maker_of m makes) (λ v l. whole v)
      ∙ ap (over n (maker_of m makes)) e ∙ over-over (maker_of m makes) n old (λ v. 0)
    where
      whole : (v : ℕ) → maker_from m makes 0 v ≡ maker_of m makes v
      whole v =
          let long : length (take m makes) ≡ m = simp length-take (omega arith) in
          first-seek 0 (take m makes) v ∙ ap₂ (λ a b. cond (ltb (seek v (take m makes)) a) (suc b) 0) long (omega arith)

-- ── what it says ──
pub makers-filled : (t : Tables) (before by : List ℕ) → t.n ≤ length before → by ≡ over t.n (maker_of t.m t.makes) before → Makers t by
makers-filled t before by h e = record {
  long = let long = ap length e ∙ over-length (maker_of t.m t.makes) t.n before h in omega arith;
  at = λ v l. ap (λ b. nat b v) e ∙ over-at (maker_of t.m t.makes) t.n before v 0 l;
}

-- sound tables make variables below n, as `makers` asks
pub sound-makes : (t : Tables) → Sound t → AllBelow t.m t.makes t.n
sound-makes t s = record { at = λ r l. (sound-row t s r l).makes }

module _ (t : Tables) (by : List ℕ) (k : Makers t by) where
  -- the row that makes a variable, and whether one does
  pub maker-is : (v : ℕ) → v < t.n → nat by v ≡ cond (is_made t v) (suc (row_of t v)) 0
  unfolding row_of
  maker-is v l = k.at v l

  pub maker-zero : (v : ℕ) → v < t.n → eqb (nat by v) 0 ≡ not (is_made t v)
  maker-zero v l = ap (λ x. eqb x 0) (maker-is v l) ∙ go (is_made t v)
    where
      go : (b : Bool) → eqb (cond b (suc (row_of t v)) 0) 0 ≡ not b
      go true = eqb-suc-zero (row_of t v)
      go false = refl

  pub maker-at : Sound t → (r : ℕ) → r < t.m → nat by (nat t.makes r) ≡ suc r
  maker-at s r l =
      maker-is (nat t.makes r) (sound-row t s r l).makes ∙ ap₂ (λ b q. cond b (suc q) 0) (row-is-made t s r l) (row-of t s r l)
