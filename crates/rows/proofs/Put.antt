-- A move in a row of values: the pairs put in from the last to the first leave what `moved` says, and pairs of search variables name no other.
-- Assumes nothing.
use Prim.Native.Nat.{ℕ, zero, suc, ◌+◌, ◌≤◌, ◌<◌}
use native.Mathlib.Nat.{le_refl, lt_irrefl}
use native.Mathlib.Omega.{arith}
use mathlib.Core.Logic.{◌≢◌}
use mathlib.Core.Bool.{Bool, true, false, cond, ◌||◌}
use mathlib.Core.List.{List, [], ◌∷◌, ◌++◌}
use mathlib.Core.Path.{◌≡◌, refl, ap, sym, ◌∙◌}
use lib.Dec.{eqb, ltb}
use lib.IntN.{ℤ, pos}
use lib.ListN.{length, get_or, drop, set, length-set, drop_of_length-le, replicate}
use Rattle.std.proofs.lemmas.List.{replicate-append-replicate}
use native.Mathlib.Numerals.{add-one}
use borrow.Author.Tests.{ltb-true, ltb-false, ne_eqb}
use Rattle.paper.specs.Lists.{any, nat, below, over}
use Rattle.paper.specs.Net.{Values, moved, names}
use Rattle.paper.specs.Checks.{Move, pairs_of_move}
use Rattle.paper.proofs.Lists.{clash, eqb-self, or-false-right}
use Rattle.paper.proofs.Scan.{next, any_append}
use Rattle.paper.proofs.Buffers.{length-below, get_d-below, over-set}
use Rattle.rows.specs.Put.{PairsFit, put_in}

-- ── which variables a move names ──
none_below : {A : Type 0} (test : A → Bool) (f : ℕ → A) (n : ℕ) → ((i : ℕ) → i < n → test (f i) ≡ false) → any test (below f n) ≡ false
none_below test f zero h = refl
none_below test f (suc n) h = any_append test (below f n) (f n ∷ []) ∙ rw (none_below test f n (λ i l. h i (omega arith)), h n (le_refl (suc n))) refl

-- none that none of its pairs has
pub not_named : (mv : Move) (v : ℕ) → ((i : ℕ) → i < mv.pairs → nat mv.vars i ≢ v) → names (pairs_of_move mv) v ≡ false
not_named mv v h = none_below (λ (p : ℕ × ℤ). eqb p.0 v) (λ i. (nat mv.vars i, get_or mv.values i (pos 0))) mv.pairs (λ i l. ne_eqb (nat mv.vars i) v (h i l))

-- none beyond those that its pairs are below
pub low-named : (n : ℕ) (mv : Move) → PairsFit n mv → (v : ℕ) → n ≤ v → names (pairs_of_move mv) v ≡ false
low-named n mv p v h = not_named mv v (λ i l q. lt_irrefl v (omega (arith, p.low i l)))

pub pairs-more : (n k : ℕ) (mv : Move) → PairsFit n mv → n ≤ k → PairsFit k mv
pairs-more n k mv p h = record { in-vars = p.in-vars; in-values = p.in-values; low = λ i l. omega (arith, p.low i l) }

-- ── a row over which it is put ──
put_all : (ps : List (ℕ × ℤ)) (n : ℕ) (f : Values) (before : List ℤ) → ((v : ℕ) → n ≤ v → names ps v ≡ false) → put_in ps (over n f before) ≡ over n (moved ps f) before
put_all [] n f before h = refl
put_all (p ∷ ps) n f before h =
    ap (λ row. set row p.0 p.1) (put_all ps n f before (λ v l. or-false-right (eqb p.0 v) (names ps v) (h v l)))
    ∙ over-set (moved ps f) n before p.0 p.1 (low (ltb p.0 n) refl)
  where
    low : (b : Bool) → ltb p.0 n ≡ b → p.0 < n
    low true e = ltb-true p.0 n e
    low false e = clash (ap (◌|| names ps p.0) (eqb-self p.0)) (h p.0 (ltb-false p.0 n e))

pub put-over : (n : ℕ) (mv : Move) → PairsFit n mv → (f : Values) (before : List ℤ) → put_in (pairs_of_move mv) (over n f before) ≡ over n (moved (pairs_of_move mv) f) before
put-over n mv p f before = put_all (pairs_of_move mv) n f before (low-named n mv p)

-- values that agree at v do so once it is put in
pub moved_at : (ps : List (ℕ × ℤ)) (f g : Values) (v : ℕ) → f v ≡ g v → moved ps f v ≡ moved ps g v
moved_at [] f g v e = e
moved_at (p ∷ ps) f g v e = ap (cond (eqb p.0 v) p.1) (moved_at ps f g v e)

-- ── a loop that puts it in ──
put-length : (ps : List (ℕ × ℤ)) (row : List ℤ) → length (put_in ps row) ≡ length row
put-length [] row = refl
put-length (p ∷ ps) row = length-set (put_in ps row) p.0 p.1 ∙ put-length ps row

module _ (mv : Move) (before : List ℤ) where
  -- the pairs from place i on are in
  pub record Putting (row : List ℤ) (i : ℕ) : Type 0 where
    pub within : i ≤ mv.pairs
    pub is : row ≡ put_in (drop i (pairs_of_move mv)) before

  abbrev pair : ℕ → ℕ × ℤ
  pair i = (nat mv.vars i, get_or mv.values i (pos 0))

  pub putting-long : (row : List ℤ) (i : ℕ) → Putting row i → length row ≡ length before
  putting-long row i s = ap length s.is ∙ put-length (drop i (pairs_of_move mv)) before

  pub putting-start : Putting before mv.pairs
  putting-start = record {
    within = le_refl mv.pairs;
    is = sym (ap (λ ps. put_in ps before) (drop_of_length-le (pairs_of_move mv) {i = mv.pairs} (let e = length-below pair mv.pairs in omega arith)));
  }

  pub putting-next : (row : List ℤ) (i j : ℕ) {v : ℕ} {x : ℤ} → Putting row i → i ≡ j + 1 → v ≡ nat mv.vars j → x ≡ get_or mv.values j (pos 0) → Putting (set row v x) j
  putting-next row i j s e p q =
      let low : j < mv.pairs = omega (arith, s.within) in
      let here : drop j (pairs_of_move mv) ≡ pair j ∷ drop (j + 1) (pairs_of_move mv) =
      next (pairs_of_move mv) j (pair j) (let k = length-below pair mv.pairs in omega arith)
      ∙ ap (◌∷ drop (j + 1) (pairs_of_move mv)) (get_d-below pair mv.pairs j (pair j) low) in
      rw (p, q) (record {
        within = omega arith;
        is = ap (λ r. set r (nat mv.vars j) (get_or mv.values j (pos 0))) (s.is ∙ ap (λ k. put_in (drop k (pairs_of_move mv)) before) e)
            ∙ sym (ap (λ ps. put_in ps before) here);
      })

  pub putting-end : (row : List ℤ) (i : ℕ) → Putting row i → i ≡ 0 → row ≡ put_in (pairs_of_move mv) before
  putting-end row i s e = s.is ∙ ap (λ k. put_in (drop k (pairs_of_move mv)) before) e

-- ── a row cleared ──
pub below-one : {A : Type 0} (x : A) (n : ℕ) → replicate n x ≡ below (λ v. x) n
below-one x zero = refl
below-one x (suc n) = ap (λ k. replicate k x) (sym (add-one n)) ∙ sym (replicate-append-replicate n 1 x) ∙ ap (◌++ (x ∷ [])) (below-one x n)
