-- A formula looks only at the inputs that it asks for, whatever the tables hold: the model that they describe is lawful, and all that
-- follows for lawful models follows for it. Assumes nothing.
use Prim.Native.Nat.{ℕ, zero, suc}
use mathlib.Core.Bool.{Bool, true, false, cond}
use mathlib.Core.List.{List, [], ◌∷◌, map, Memᴰ}
use mathlib.Core.Path.{◌≡◌, refl, ap, ◌∙◌}
use lib.IntN.{ℤ, pos, negsuc}
use lib.Dec.{eqb}
use lib.ListN.{get_or, take, drop}
use Rattle.paper.specs.Formula.{formula, looked, element, element_looks, chosen, pick, blank, of_all}
use Rattle.paper.specs.Net.{Values, Net}
use Rattle.paper.specs.Tables.{Tables, net, inputs_of, row_of, part}
use Rattle.paper.proofs.Lists.{map_same}

-- what every model that tables describe has
pub record Lawful (N : Net) : Type 0 where
  pub bare : (v : ℕ) → N.made v ≡ false → N.ins v ≡ []
  pub asks-in : (v : ℕ) (f : Values) (i : ℕ) → Memᴰ i (N.asks v f) → Memᴰ i (N.ins v)
  -- a formula looks only at what it asks
  pub looks : (v : ℕ) (f g : Values) → ((i : ℕ) → Memᴰ i (N.asks v f) → f i ≡ g i) → N.form v f ≡ N.form v g
  pub asks-same : (v : ℕ) (f g : Values) → ((i : ℕ) → Memᴰ i (N.asks v f) → f i ≡ g i) → N.asks v f ≡ N.asks v g

-- ── ELEMENT looks at its index and then at one candidate ──
one_in : {w : ℕ} (i : ℕ) (vs : List ℕ) → Memᴰ w (take 1 (drop i vs)) → Memᴰ w vs
one_in zero [] m = m
one_in zero (v ∷ vs) (Memᴰ.head q) = Memᴰ.head q
one_in (suc i) [] m = m
one_in (suc i) (v ∷ vs) m = Memᴰ.tail (one_in i vs m)
one_in {w = w} zero (v ∷ vs) (Memᴰ.tail x5) = elim x5 [ ]

chosen-in : {w : ℕ} (z : ℤ) (vs : List ℕ) → Memᴰ w (chosen z vs) → Memᴰ w vs
chosen-in (pos i) vs m = one_in i vs m
chosen-in {w = w} (negsuc _) vs m = elim m [ ]

pub looked-in : {w : ℕ} (k : ℕ) (f : Values) (vs : List ℕ) → Memᴰ w (looked k f vs) → Memᴰ w vs
unfolding looked
looked-in {w} k f vs m = go (eqb k 4) vs m
  where
    go : (b : Bool) (us : List ℕ) → Memᴰ w (cond b (element_looks f us) us) → Memᴰ w us
    go true (u ∷ us) (Memᴰ.head q) = Memᴰ.head q
    go true (u ∷ us) (Memᴰ.tail t) = Memᴰ.tail (chosen-in (f u) us t)
    go false us t = t
    go true [] t = elim t [ ]

module _ (f g : Values) where
  get_d-one : (i : ℕ) (vs : List ℕ) → ((w : ℕ) → Memᴰ w (take 1 (drop i vs)) → f w ≡ g w) → get_or (map f vs) i blank ≡ get_or (map g vs) i blank
  get_d-one i [] h = refl
  get_d-one zero (v ∷ vs) h = h v (Memᴰ.head refl)
  get_d-one (suc i) (v ∷ vs) h = get_d-one i vs h

  pick_same : (z : ℤ) (vs : List ℕ) → ((w : ℕ) → Memᴰ w (chosen z vs) → f w ≡ g w) → pick z (map f vs) ≡ pick z (map g vs)
  pick_same (pos i) vs h = get_d-one i vs h
  pick_same (negsuc i) vs h = refl

  element-same : (vs : List ℕ) → ((w : ℕ) → Memᴰ w (element_looks f vs) → f w ≡ g w) → element (map f vs) ≡ element (map g vs)
  element-same [] h = refl
  element-same (v ∷ vs) h = pick_same (f v) vs (λ w m. h w (Memᴰ.tail m)) ∙ ap (λ z. pick z (map g vs)) (h v (Memᴰ.head refl))

  looks-same : (vs : List ℕ) → ((w : ℕ) → Memᴰ w (element_looks f vs) → f w ≡ g w) → element_looks f vs ≡ element_looks g vs
  looks-same [] h = refl
  looks-same (v ∷ vs) h = ap (λ z. v ∷ chosen z vs) (h v (Memᴰ.head refl))

  pub formula-same : (k : ℕ) (p : ℤ) (cs : List ℤ) (vs : List ℕ) → ((w : ℕ) → Memᴰ w (looked k f vs) → f w ≡ g w)
      → formula k p cs (map f vs) ≡ formula k p cs (map g vs)
  unfolding formula looked
  formula-same k p cs vs h = go (eqb k 4) h
    where
      go : (b : Bool) → ((w : ℕ) → Memᴰ w (cond b (element_looks f vs) vs) → f w ≡ g w)
          → cond b (element (map f vs)) (of_all k p cs (map f vs)) ≡ cond b (element (map g vs)) (of_all k p cs (map g vs))
      go true t = element-same vs t
      go false t = ap (of_all k p cs) (map_same f g vs t)

  pub looked-same : (k : ℕ) (vs : List ℕ) → ((w : ℕ) → Memᴰ w (looked k f vs) → f w ≡ g w) → looked k f vs ≡ looked k g vs
  unfolding looked
  looked-same k vs h = go (eqb k 4) h
    where
      go : (b : Bool) → ((w : ℕ) → Memᴰ w (cond b (element_looks f vs) vs) → f w ≡ g w) → cond b (element_looks f vs) vs ≡ cond b (element_looks g vs) vs
      go true t = looks-same vs t
      go false t = refl

-- ── the model of any tables ──
pub lawful : (t : Tables) → Lawful (net t)
lawful t = record {
  bare = λ v e. ap (λ b. cond b (part t (row_of t v) t.vars) []) e;
  asks-in = λ v f i m. looked-in (get_or t.kinds (row_of t v) 0) f (inputs_of t v) m;
  looks = λ v f g h. formula-same f g (get_or t.kinds (row_of t v) 0) (get_or t.params (row_of t v) (pos 0)) (part t (row_of t v) t.coefs) (inputs_of t v) h;
  asks-same = λ v f g h. looked-same f g (get_or t.kinds (row_of t v) 0) (inputs_of t v) h;
}
