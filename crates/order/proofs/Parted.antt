-- The rows of parts: what stands at a variable is what its maker's row says, so its part is its inputs. Assumes nothing.
use Prim.Native.Nat.{ℕ, zero, suc, ◌+◌, ◌-◌, ◌≤◌, ◌<◌}
use native.Mathlib.Nat.{lt_irrefl}
use native.Mathlib.Omega.{arith}
use mathlib.Core.Bool.{Bool, true, false, cond}
use mathlib.Core.List.{List, [], ◌∷◌}
use mathlib.Core.Path.{◌≡◌, refl, ap, ap₂, sym, ◌∙◌}
use lib.Dec.{ltb}
use lib.ListN.{length, get_or, take, drop}
use lib.Seq.{slice, take-nil, get_or-append-add, get_or-drop}
use borrow.Author.Tests.{ltb-true, ltb-false, ne_eqb}
use Rattle.paper.specs.Lists.{nat, below, over}
use Rattle.paper.specs.Tables.{Tables, part, row_of, is_made, inputs_of}
use Rattle.paper.proofs.Buffers.{length-below, over-at}
use Rattle.tables.specs.Makers.{maker_of, Makers}
use Rattle.order.specs.Formed.{Formed}
use Rattle.order.specs.Numbering.{Clean, of_maker, stop_of, part_at, Columns}

-- a part is a slice
part_slice : (l : List ℕ) (a k : ℕ) → slice a (a + k) l ≡ take k (drop a l)
part_slice l zero k = let z : 0 + k ≡ k = omega arith in rw z
part_slice [] (suc a) k = ap (drop (suc a)) (take-nil (suc a + k)) ∙ sym (take-nil k)
part_slice (x ∷ xs) (suc a) k = let z : suc a + k ≡ suc (a + k) = omega arith in rw z (part_slice xs a k)

-- and so is the part of the row from a place on
pub cut_slice : (l : List ℕ) (a k : ℕ) → take ((a + k) - a) (drop a l) ≡ slice a (a + k) l
cut_slice l a k = let z : (a + k) - a ≡ k = omega arith in rw z (sym (part_slice l a k))

-- a maker is one more than its row
of_row : (r : ℕ) (column : List ℕ) → of_maker (suc r) column ≡ nat column r
of_row r column = let z : suc r - 1 ≡ r = omega arith in rw (ne_eqb (suc r) 0 (λ e. omega arith), z)

-- behind a filled front stands what stood there
pub over-out : (f : ℕ → ℕ) (n : ℕ) (before : List ℕ) (v d : ℕ) → n ≤ v → get_or (over n f before) v d ≡ get_or before v d
over-out f n before v d h =
    let long = length-below f n in
    let s : v ≡ length (below f n) + (v - n) = omega arith in
    let z : n + (v - n) ≡ v = omega arith in
    ap (λ i. get_or (over n f before) i d) s ∙ get_or-append-add (below f n) (drop n before) (v - n) d ∙ get_or-drop n before (v - n) d ∙ ap (λ i. get_or before i d) z

-- the parts are the variables' inputs
pub record Parts (t : Tables) (begins stops : List ℕ) : Type 0 where
  pub inside : (v : ℕ) → nat stops v ≤ length t.vars
  pub inputs : (v : ℕ) → part_at begins stops t.vars v ≡ inputs_of t v

module _ (t : Tables) (F : Formed t) where
  -- ── the maker of a variable ──
  maker-is : (v : ℕ) → maker_of t.m t.makes v ≡ cond (is_made t v) (suc (row_of t v)) 0
  unfolding row_of
  maker-is v = refl

  maker-le : (v : ℕ) → maker_of t.m t.makes v ≤ t.m
  maker-le v = rw (maker-is v) (go (is_made t v) refl)
    where
      go : (b : Bool) → is_made t v ≡ b → cond b (suc (row_of t v)) 0 ≤ t.m
      go true e = ltb-true (row_of t v) t.m e
      go false e = omega arith

  -- none beyond the variables
  maker-out : (v : ℕ) → t.n ≤ v → maker_of t.m t.makes v ≡ 0
  maker-out v h = maker-is v ∙ go (is_made t v) refl
    where
      go : (b : Bool) → is_made t v ≡ b → cond b (suc (row_of t v)) 0 ≡ 0
      go true e = let l = F.made-below v e in absurd (lt_irrefl v (omega arith))
      go false e = refl

  module _ (by : List ℕ) (M : Makers t by) where
    by_le : (v : ℕ) → v < t.n → nat by v ≤ t.m
    by_le v l = rw (M.at v l) (maker-le v)

    stop-small : (v : ℕ) → v < t.n → stop_of t.firsts t.counts (nat by v) ≤ 16384
    stop-small v l = rw (M.at v l ∙ maker-is v) (go (is_made t v) refl)
      where
        go : (b : Bool) → is_made t v ≡ b → stop_of t.firsts t.counts (cond b (suc (row_of t v)) 0) ≤ 16384
        go true e = rw (of_row (row_of t v) t.firsts, of_row (row_of t v) t.counts) (F.row_small (row_of t v) (ltb-true (row_of t v) t.m e))
        go false e = omega arith

    pub columns_of : Columns t.n by t.firsts t.counts
    columns_of = record {
      few = F.few;
      long = M.long;
      first = λ v l. let k = by_le v l in let h = F.firsts in omega arith;
      count = λ v l. let k = by_le v l in let h = F.counts in omega arith;
      small = stop-small;
    }

    -- a row filled with what the makers say, over zeros
    filled_at : (f : ℕ → ℕ) → f 0 ≡ 0 → (zeros : List ℕ) → Clean t.n zeros → (v : ℕ) → nat (over t.n (λ u. f (nat by u)) zeros) v ≡ f (maker_of t.m t.makes v)
    filled_at f z zeros C v = go (ltb v t.n) refl
      where
        go : (b : Bool) → ltb v t.n ≡ b → nat (over t.n (λ u. f (nat by u)) zeros) v ≡ f (maker_of t.m t.makes v)
        go true e = let l = ltb-true v t.n e in over-at (λ u. f (nat by u)) t.n zeros v 0 l ∙ ap f (M.at v l)
        go false e = let h = ltb-false v t.n e in over-out (λ u. f (nat by u)) t.n zeros v 0 h ∙ C.at v ∙ sym (ap f (maker-out v h) ∙ z)

    -- what no row makes has no input
    pub search-none : (v : ℕ) → v < t.n → nat by v ≡ 0 → inputs_of t v ≡ []
    search-none v l e = go (is_made t v) refl (sym (maker-is v) ∙ sym (M.at v l) ∙ e)
      where
        go : (b : Bool) → is_made t v ≡ b → cond b (suc (row_of t v)) 0 ≡ 0 → cond b (part t (row_of t v) t.vars) [] ≡ []
        go true e q = absurd (lt_irrefl 0 (omega arith))
        go false e q = refl

    -- the part of a row lies inside the entries, and what no row makes has none
    inside : (v : ℕ) (made : Bool) → is_made t v ≡ made → stop_of t.firsts t.counts (cond made (suc (row_of t v)) 0) ≤ length t.vars
    inside v true e = rw (of_row (row_of t v) t.firsts, of_row (row_of t v) t.counts) (F.row_inside (row_of t v) (ltb-true (row_of t v) t.m e))
    inside v false e = omega arith

    inputs : (v : ℕ) (made : Bool) → is_made t v ≡ made
        → slice (of_maker (cond made (suc (row_of t v)) 0) t.firsts) (stop_of t.firsts t.counts (cond made (suc (row_of t v)) 0)) t.vars
        ≡ cond made (part t (row_of t v) t.vars) []
    inputs v true e = rw (of_row (row_of t v) t.firsts, of_row (row_of t v) t.counts) (part_slice t.vars (nat t.firsts (row_of t v)) (nat t.counts (row_of t v)))
    inputs v false e = refl

    -- what the maker's row says of a variable: where its inputs stop, and which they are
    pub stop-inside : (v : ℕ) → v < t.n → stop_of t.firsts t.counts (nat by v) ≤ length t.vars
    stop-inside v l = rw (M.at v l ∙ maker-is v) (inside v (is_made t v) refl)

    pub part-inputs : (v : ℕ) → v < t.n → slice (of_maker (nat by v) t.firsts) (stop_of t.firsts t.counts (nat by v)) t.vars ≡ inputs_of t v
    part-inputs v l = rw (M.at v l ∙ maker-is v) (inputs v (is_made t v) refl)

    pub parts-of : {b₀ s₀ b s : List ℕ} → Clean t.n b₀ → Clean t.n s₀ → b ≡ over t.n (λ u. of_maker (nat by u) t.firsts) b₀
        → s ≡ over t.n (λ u. stop_of t.firsts t.counts (nat by u)) s₀ → Parts t b s
    parts-of {b₀} {s₀} {b} {s} B S eb es = record {
      inside = λ v. rw (stops v) (inside v (is_made t v) refl);
      inputs = λ v. ap₂ (λ x y. slice x y t.vars) (begins v) (stops v) ∙ inputs v (is_made t v) refl;
    }
      where
        begins : (v : ℕ) → nat b v ≡ of_maker (cond (is_made t v) (suc (row_of t v)) 0) t.firsts
        begins v = rw eb (filled_at (λ k. of_maker k t.firsts) refl b₀ B v ∙ ap (λ k. of_maker k t.firsts) (maker-is v))

        stops : (v : ℕ) → nat s v ≡ stop_of t.firsts t.counts (cond (is_made t v) (suc (row_of t v)) 0)
        stops v = rw es (filled_at (stop_of t.firsts t.counts) refl s₀ S v ∙ ap (stop_of t.firsts t.counts) (maker-is v))
