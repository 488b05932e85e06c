-- Values worked out afresh: where every chain of inputs ends they exist, are the only ones that meet the paper's sentence, and depend on the
-- search variables' values alone. Assumes nothing.
use Prim.Native.Nat.{ℕ, zero}
use mathlib.Core.Bool.{Bool, true, false, cond, ◌||◌, true≢false}
use mathlib.Core.List.{List, [], ◌∷◌, Memᴰ}
use mathlib.Core.Path.{◌≡◌, refl, ap, sym, ◌∙◌, fun_ext}
use lib.IntN.{ℤ, pos}
use lib.Dec.{eqb}
use Rattle.paper.specs.Net.{Values, Net, Rule, runs, able, valuation, afresh, moved, names}
use Rattle.paper.proofs.Fix.{Local, solution, is-solution}
use Rattle.paper.proofs.Lawful.{Lawful}

-- a variable that the move does not name keeps its value
pub unnamed : (mv : List (ℕ × ℤ)) (s : Values) (v : ℕ) → names mv v ≡ false → moved mv s v ≡ s v
unnamed [] s v e = refl
unnamed (p ∷ ps) s v e = go (eqb p.0 v) e (unnamed ps s v)
  where
    go : (b : Bool) → (b || names ps v) ≡ false → (names ps v ≡ false → moved ps s v ≡ s v) → cond b p.1 (moved ps s v) ≡ s v
    go true h ih = absurd (true≢false h)
    go false h ih = ih h

module _ (N : Net) where
  -- stored values that are the fresh ones of their own search variables
  abbrev pub Fresh : Values → Type 0
  Fresh old = (v : ℕ) → old v ≡ valuation N old old v

  -- ── only the search variables' values matter ──
  abbrev pub Alike : Values → Values → Type 0
  Alike s t = (v : ℕ) → N.made v ≡ false → s v ≡ t v

  pub afresh-alike : (s t : Values) → Alike s t → afresh N s ≡ afresh N t
  afresh-alike s t h = ap (λ (r : Rule ℤ). runs r (λ v. pos zero)) (fun_ext (λ f. fun_ext (λ v. go f v (N.made v) refl)))
    where
      go : (f : Values) (v : ℕ) (m : Bool) → N.made v ≡ m → cond m (N.form v f) (s v) ≡ cond m (N.form v f) (t v)
      go f v true p = refl
      go f v false p = h v p

  pub moved-alike : (mv : List (ℕ × ℤ)) (s t : Values) → Alike s t → Alike (moved mv s) (moved mv t)
  moved-alike [] s t h v p = h v p
  moved-alike (c ∷ cs) s t h v p = ap (cond (eqb c.0 v) c.1) (moved-alike cs s t h v p)

module _ (N : Net) (L : Lawful N) where
  pub form-same : (v : ℕ) (f g : Values) → ((i : ℕ) → Memᴰ i (N.ins v) → f i ≡ g i) → N.form v f ≡ N.form v g
  form-same v f g h = L.looks v f g (λ i m. h i (L.asks-in v f i m))

  valuation-local : (s : Values) → Local N.ins (valuation N s)
  valuation-local s f g v h = ap (λ z. cond (N.made v) z (s v)) (form-same v f g h)

  module _ (k : ℕ) (ends : (v : ℕ) → able N.ins k v ≡ true) where
    -- ── they exist, and are the only ones ──
    pub afresh-equation : (s : Values) (v : ℕ) → afresh N s k v ≡ valuation N s (afresh N s k) v
    afresh-equation s = solution N.ins (valuation N s) (valuation-local s) (λ v. pos zero) k ends

    pub afresh-unique : (s f : Values) → ((v : ℕ) → f v ≡ valuation N s f v) → (v : ℕ) → f v ≡ afresh N s k v
    afresh-unique s f h = is-solution N.ins (valuation N s) (valuation-local s) (λ v. pos zero) f k ends h

    -- ── as stored values they are fresh ──
    pub afresh-fresh : (s : Values) → Fresh N (afresh N s k)
    afresh-fresh s v = afresh-equation s v ∙ go (N.made v) (afresh-equation s v)
      where
        go : (m : Bool) → afresh N s k v ≡ cond m (N.form v (afresh N s k)) (s v)
            → cond m (N.form v (afresh N s k)) (s v) ≡ cond m (N.form v (afresh N s k)) (afresh N s k v)
        go true e = refl
        go false e = sym e

    pub afresh-search : (s : Values) → Alike N (afresh N s k) s
    afresh-search s v p = afresh-equation s v ∙ rw p
