-- The index of an ELEMENT is the first entry of its part, and a made variable has an entry in its part. Assumes nothing.
use Prim.Native.Nat.{ℕ, suc, ◌≤◌, ◌<◌}
use native.Mathlib.Nat.{lt_irrefl}
use native.Mathlib.Omega.{arith}
use mathlib.Core.Bool.{Bool, true, false, cond, not, false≢true}
use mathlib.Core.List.{List, [], ◌∷◌, Memᴰ}
use mathlib.Core.Path.{◌≡◌, refl, ap, sym, ◌∙◌, subst⁻¹}
use lib.Dec.{eqb}
use lib.ListN.{length, take}
use lib.Seq.{slice, slice-cons, length-slice}
use borrow.Author.Tests.{ltb-true, ne_eqb}
use Rattle.paper.specs.Lists.{nat}
use Rattle.paper.specs.Tables.{Tables, row_of, is_made, inputs_of}
use Rattle.paper.proofs.Scan.{part_length}
use Rattle.tables.specs.Makers.{Makers}
use Rattle.paper.specs.Chains.{is_element, indices}
use Rattle.order.specs.Formed.{Formed}
use Rattle.order.specs.Numbering.{Parted}
use Rattle.chains.specs.Links.{by_element, Linked}
use Rattle.chains.specs.Back.{HasIndices}
use Rattle.chains.proofs.Linked.{maker-le, element-is}

module _ (t : Tables) (F : Formed t) where
  -- a made variable has inputs
  pub some-inputs : (v : ℕ) → is_made t v ≡ true → 1 ≤ length (inputs_of t v)
  some-inputs v e =
      let low = ltb-true (row_of t v) t.m e in let some = F.row_reads (row_of t v) low in
      let long = part_length t.vars (nat t.firsts (row_of t v)) (nat t.counts (row_of t v)) (F.row_inside (row_of t v) low) in
      rw e (omega arith)

  -- and no other has
  pub linkless : (v : ℕ) → eqb (length (inputs_of t v)) 0 ≡ not (is_made t v)
  linkless v = go (is_made t v) refl
    where
      go : (b : Bool) → is_made t v ≡ b → eqb (length (inputs_of t v)) 0 ≡ not b
      go true e = let some = some-inputs v e in ne_eqb (length (inputs_of t v)) 0 (λ z. lt_irrefl 0 (omega arith))
      go false e = rw e refl

  module _ (by : List ℕ) (M : Makers t by) where
    element-made : (v : ℕ) → v < t.n → by_element t.kinds (nat by v) ≡ true → is_made t v ≡ true
    element-made v l q = go (is_made t v) refl
      where
        go : (b : Bool) → is_made t v ≡ b → is_made t v ≡ true
        go true e = e
        go false e = absurd (false≢true (sym (element-is t F by M v l false e) ∙ q))

    module _ (begins stops : List ℕ) (L : Linked true t begins stops) (P : Parted t.n begins stops t.vars) where
      begins-before : (v : ℕ) → is_made t v ≡ true → nat begins v < nat stops v
      begins-before v e =
          let some = some-inputs v e in let same = ap length (L.at v) in
          let long = length-slice (nat begins v) (nat stops v) t.vars (P.inside v) in omega arith

      first-is : (v : ℕ) → is_made t v ≡ true
          → inputs_of t v ≡ nat t.vars (nat begins v) ∷ slice (suc (nat begins v)) (nat stops v) t.vars
      first-is v e = sym (L.at v) ∙ slice-cons (nat begins v) (nat stops v) t.vars 0 (begins-before v e) (P.inside v)

      pub index_in : (v : ℕ) → v < t.n → by_element t.kinds (nat by v) ≡ true → Memᴰ (nat t.vars (nat begins v)) (inputs_of t v)
      index_in v l q = subst⁻¹ (Memᴰ (nat t.vars (nat begins v))) (first-is v (element-made v l q)) (Memᴰ.head refl)

      pub indices-are : (v : ℕ) → v < t.n → indices t v ≡ cond (by_element t.kinds (nat by v)) (nat t.vars (nat begins v) ∷ []) []
      indices-are v l = go (is_made t v) refl (is_element t v) refl
        where
          go : (b : Bool) → is_made t v ≡ b → (c : Bool) → is_element t v ≡ c
              → cond c (take 1 (inputs_of t v)) [] ≡ cond (by_element t.kinds (nat by v)) (nat t.vars (nat begins v) ∷ []) []
          go true e true f = rw (element-is t F by M v l true e, f) (ap (take 1) (first-is v e))
          go true e false f = rw (element-is t F by M v l true e, f) refl
          go false e true f = rw (element-is t F by M v l false e, e) refl
          go false e false f = rw (element-is t F by M v l false e) refl

      pub indexed_of : t.m ≤ length t.kinds → HasIndices t.n t.kinds by begins t.vars
      indexed_of K = record {
        few = F.few;
        long = M.long;
        rows = λ v l. let h = maker-le t F by M v l in omega arith;
        there = λ v l q. let h = begins-before v (element-made v l q) in let i = P.inside v in omega arith;
        below = λ v l q. F.inputs-below v (nat t.vars (nat begins v)) (index_in v l q);
      }
