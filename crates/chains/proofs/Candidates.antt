-- The candidates of what an ELEMENT row makes are the entries of its part behind the first; other rows give none, nor has a variable that no row makes any.
-- Assumes nothing.
use Prim.Native.Nat.{ℕ, zero, suc, ◌+◌, ◌<◌}
use native.Mathlib.Omega.{arith}
use mathlib.Core.Bool.{Bool, true, false, cond}
use mathlib.Core.List.Memᴰ
use mathlib.Core.List.{List, [], ◌∷◌, Memᴰ}
use mathlib.Core.Path.{◌≡◌, refl, ap, ap₂, sym, ◌∙◌, subst⁻¹}
use lib.Dec.{eqb, ltb}
use lib.ListN.{length, get_or, take, drop}
use lib.Seq.{slice, take-nil, drop-nil}
use Rattle.std.specs.List.{between}
use Rattle.std.proofs.lemmas.Slice.{between_is}
use borrow.Author.Tests.{lt-ltb}
use Rattle.paper.specs.Lists.{nat}
use Rattle.paper.specs.Tables.{Tables, part, is_made, inputs_of}
use Rattle.paper.specs.Chains.{is_element, candidates}
use Rattle.order.specs.Formed.{Formed}
use Rattle.chains.proofs.Found.{entries-low}

-- a candidate is an input
pub candidate-input : (t : Tables) (v i : ℕ) → Memᴰ i (candidates t v) → Memᴰ i (inputs_of t v)
candidate-input t v i m = go (is_element t v) (inputs_of t v) m
  where
    go : (b : Bool) (xs : List ℕ) → Memᴰ i (cond b (drop 1 xs) []) → Memᴰ i xs
    go true [] h = h
    go true (x ∷ xs) h = Memᴰ.tail h
    go false xs h = absurd (Memᴰ.not-nil h)

-- no row makes v
pub candidates-unmade : (t : Tables) (v : ℕ) → is_made t v ≡ false → candidates t v ≡ []
candidates-unmade t v e = rw e (go (is_element t v))
  where
    go : (b : Bool) → ◌≡◌ {A = List ℕ} (cond b [] []) []
    go true = refl
    go false = refl

-- a part behind its first entry is a slice
behind-first : (l : List ℕ) (a k : ℕ) → slice (a + 1) (a + k) l ≡ drop 1 (take k (drop a l))
behind-first l zero k = let z : 0 + k ≡ k = omega arith in rw z
behind-first [] (suc a) k =
    ap (drop (suc a + 1)) (take-nil (suc a + k)) ∙ drop-nil (suc a + 1) ∙ sym (ap (drop 1) (take-nil k) ∙ drop-nil 1)
behind-first (x ∷ xs) (suc a) k =
    let z : suc a + k ≡ suc (a + k) = omega arith in let o : suc a + 1 ≡ suc (a + 1) = omega arith in rw (z, o) (behind-first xs a k)

module _ (t : Tables) (F : Formed t) (r : ℕ) (l : r < t.m) where
  -- what r makes is made by r
  row-inputs : inputs_of t (nat t.makes r) ≡ part t r t.vars
  row-inputs = ap₂ (λ b k. cond b (part t k t.vars) []) (ap (λ k. ltb k t.m) (F.row-of r l) ∙ lt-ltb r t.m l) (F.row-of r l)

  row-candidates : candidates t (nat t.makes r) ≡ cond (eqb (nat t.kinds r) 4) (drop 1 (part t r t.vars)) []
  row-candidates = ap₂ (λ k xs. cond (eqb (nat t.kinds k) 4) (drop 1 xs) []) (F.row-of r l) row-inputs

  -- it is not ELEMENT
  pub candidates-none : eqb (nat t.kinds r) 4 ≡ false → candidates t (nat t.makes r) ≡ []
  candidates-none e = row-candidates ∙ ap (λ b. cond b (drop 1 (part t r t.vars)) []) e

  -- it is
  pub candidates-are : {first count : ℕ} → first ≡ nat t.firsts r → count ≡ nat t.counts r → eqb (nat t.kinds r) 4 ≡ true
      → slice (first + 1) (first + count) t.vars ≡ candidates t (nat t.makes r)
  candidates-are {first} {count} begins holds e =
      ap₂ (λ a k. slice (a + 1) (a + k) t.vars) begins holds ∙ behind-first t.vars (nat t.firsts r) (nat t.counts r)
      ∙ sym (row-candidates ∙ ap (λ b. cond b (drop 1 (part t r t.vars)) []) e)

  -- and as the code takes them
  pub candidates-between : {first count : ℕ} → first ≡ nat t.firsts r → count ≡ nat t.counts r → eqb (nat t.kinds r) 4 ≡ true
      → between (first + 1) (first + count) t.vars ≡ candidates t (nat t.makes r)
  candidates-between {first} {count} begins holds e = between_is t.vars (first + 1) (first + count) ∙ candidates-are begins holds e

  -- each of them is a variable
  pub candidates-low : {first count : ℕ} → first ≡ nat t.firsts r → count ≡ nat t.counts r → eqb (nat t.kinds r) 4 ≡ true
      → (k d : ℕ) → k < length (between (first + 1) (first + count) t.vars) → get_or (between (first + 1) (first + count) t.vars) k d < t.n
  candidates-low {first} {count} begins holds e =
      subst⁻¹ (λ (l : List ℕ). (k d : ℕ) → k < length l → get_or l k d < t.n) (candidates-between begins holds e)
      (entries-low t.n (candidates t (nat t.makes r)) (λ j m. F.inputs-below (nat t.makes r) j (candidate-input t (nat t.makes r) j m)))
