-- What is made from a variable: a row reads v exactly if v is among the inputs of what it makes. Assumes nothing.
use Prim.Native.Nat.{ℕ, suc, ◌+◌, ◌-◌, ◌≤◌, ◌<◌}
use native.Mathlib.Omega.{arith}
use mathlib.Core.Bool.{Bool, true, false, cond}
use mathlib.Core.List.Memᴰ
use mathlib.Core.List.{List, [], ◌∷◌, map, Memᴰ}
use mathlib.Core.Path.{◌≡◌, refl, ap, sym, ◌∙◌, subst}
use lib.Dec.{eqb}
use lib.ListN.{length, take}
use lib.Seq.{slice, length-slice, get_or-take, get_or-drop}
use borrow.Author.Tests.{eqb-true}
use Rattle.paper.specs.Lists.{nat}
use Rattle.paper.specs.Tables.{Tables, part, row_of, is_made, inputs_of, reads}
use Rattle.paper.specs.Checks.{Sound}
use Rattle.paper.proofs.Lists.{eqb-self, any-in, any-has}
use Rattle.paper.proofs.Those.{those-in, those-has}
use Rattle.paper.proofs.Accept.{row-inputs, made_row, made_by}
use Rattle.index.specs.Index.{Indexed}
use Rattle.routes.proofs.Members.{at_place, mapped}

-- ── what a list is mapped to ──
mapped-from : {A B : Type 0} (f : A → B) (xs : List A) {y : B} → Memᴰ y (map f xs) → (x : A) × Memᴰ x xs × (y ≡ f x)
mapped-from f [] m = absurd (Memᴰ.not-nil m)
mapped-from f (x ∷ xs) (Memᴰ.head q) = (x, Memᴰ.head refl, q)
mapped-from f (x ∷ xs) (Memᴰ.tail m) = let (z, n, e) = mapped-from f xs m in (z, Memᴰ.tail n, e)

-- ── a place of a section ──
pub slice_at : (first last : ℕ) (l : List ℕ) (i : ℕ) → last ≤ length l → first ≤ i → i < last → Memᴰ (nat l i) (slice first last l)
slice_at first last l i k g h =
    let d : first + (i - first) ≡ i = omega arith in let z = length-slice first last l k in
    subst (λ x. Memᴰ x (slice first last l)) (get_or-drop first (take last l) (i - first) 0 ∙ ap (nat (take last l)) d ∙ get_or-take last l i 0 h)
    (at_place (slice first last l) (i - first) (omega arith))

module _ (t : Tables) (s : Sound t) where
  -- ── rows ──
  pub reads-input : (v r : ℕ) → r < t.m → reads t v r ≡ true → Memᴰ v (inputs_of t (nat t.makes r))
  reads-input v r h e =
      let (i, m, q) = any-has (eqb v) (part t r t.vars) e in
      subst (Memᴰ v) (sym (row-inputs t s r h)) (subst (λ u. Memᴰ u (part t r t.vars)) (sym (eqb-true v i q)) m)

  pub input-reads : (v r : ℕ) → r < t.m → Memᴰ v (inputs_of t (nat t.makes r)) → reads t v r ≡ true
  input-reads v r h m = any-in (eqb v) (part t r t.vars) (subst (Memᴰ v) (row-inputs t s r h) m) (eqb-self v)

  -- what has inputs is made
  pub input-made : (v u : ℕ) → Memᴰ v (inputs_of t u) → is_made t u ≡ true
  input-made v u m = go (is_made t u) refl m
    where
      go : (b : Bool) → is_made t u ≡ b → Memᴰ v (cond b (part t (row_of t u) t.vars) []) → is_made t u ≡ true
      go true e n = e
      go false e n = absurd (Memᴰ.not-nil n)

  -- ── the section of v in the index ──
  module _ (starts places : List ℕ) (x : Indexed t starts places) (v : ℕ) (l : v < t.n) where
    -- each of its rows is a row of the tables that reads v
    pub section-reads : (r : ℕ) → Memᴰ r (slice (nat starts v) (nat starts (suc v)) places) → (r < t.m) × (reads t v r ≡ true)
    section-reads r m = those-in (reads t v) t.m r (subst (Memᴰ r) (x.at v l) m)

    -- u is made by one of them exactly if v is among its inputs
    pub section-input : (u : ℕ) → Memᴰ u (map (nat t.makes) (slice (nat starts v) (nat starts (suc v)) places)) → Memᴰ v (inputs_of t u)
    section-input u m =
        let (r, n, e) = mapped-from (nat t.makes) (slice (nat starts v) (nat starts (suc v)) places) m in let (h, q) = section-reads r n in
        subst (λ w. Memᴰ v (inputs_of t w)) (sym e) (reads-input v r h q)

    pub input-section : (u : ℕ) → Memᴰ v (inputs_of t u) → Memᴰ u (map (nat t.makes) (slice (nat starts v) (nat starts (suc v)) places))
    input-section u m =
        let d = input-made v u m in let h = made_row t s u d in let q = made_by t s u d in
        subst (λ w. Memᴰ w (map (nat t.makes) (slice (nat starts v) (nat starts (suc v)) places))) q
        (mapped (nat t.makes) (slice (nat starts v) (nat starts (suc v)) places)
        (subst (Memᴰ (row_of t u)) (sym (x.at v l))
        (those-has (reads t v) t.m (row_of t u) h (input-reads v (row_of t u) h (subst (λ w. Memᴰ v (inputs_of t w)) (sym q) m)))))
