-- The three routes: over stored values that are fresh, each gives new values worked out afresh, since what it leaves out has no input that
-- changed. Assumes nothing.
use Prim.Native.Nat.{ℕ}
use mathlib.Core.Bool.{Bool, true, false, cond, not, ◌&&◌, ◌||◌, true≢false, false≢true}
use mathlib.Core.List.{List, Memᴰ}
use mathlib.Core.Path.{◌≡◌, refl, ap, ap₂, sym, ◌∙◌, subst⁻¹, fun_ext}
use lib.IntN.{ℤ}
use lib.Dec.{eqb}
use borrow.Author.Tests.{not-false}
use Rattle.integers.specs.Integers.{eq_z}
use Rattle.integers.proofs.Order.{eq_z-yes}
use Rattle.paper.specs.Lists.{any}
use Rattle.paper.specs.Net.{Values, Net, able, afresh, differs, marking, marked, Route, input-to-output, output-to-input, mark-guided, live, routing, new, asking, moved}
use Rattle.paper.proofs.Lists.{any_out, any_same}
use Rattle.paper.proofs.Fix.{Local, solution}
use Rattle.paper.proofs.Lawful.{Lawful}
use Rattle.paper.proofs.Fresh.{Fresh, form-same, moved-alike, afresh-alike, afresh-unique, afresh-fresh, afresh-search}

module _ (N : Net) (L : Lawful N) where
  -- ── each rule looks at the inputs alone ──
  marking-local : (old s : Values) → Local N.ins (marking N old s)
  marking-local old s f g v h = ap (λ b. cond (N.made v) b (differs s old v)) (any_same f g (N.ins v) h)

  routing-local : (r : Route) (old s : Values) (k : ℕ) → Local N.ins (routing N r old s k)
  routing-local input-to-output old s k f g v h =
      ap₂ (λ b z. cond (N.made v) (cond b z (old v)) (s v))
      (any_same (differs f old) (differs g old) (N.ins v) (λ i m. ap (λ z. not (eq_z z (old i))) (h i m))) (form-same N L v f g h)
  routing-local output-to-input old s k f g v h = ap (λ z. cond (N.made v) z (s v)) (form-same N L v f g h)
  routing-local mark-guided old s k f g v h = ap (λ z. cond (N.made v) (cond (marked N old s k v) z (old v)) (s v)) (form-same N L v f g h)

  pub asking-local : (works : ℕ → Bool) (f : Values) (v : ℕ) → Local N.ins (asking N works f v)
  asking-local works f v p q a h = ap (λ b. eqb a v || (works a && b)) (any_same p q (N.asks a f) (λ i m. h i (L.asks-in a f i m)))

  module _ (k : ℕ) (ends : (v : ℕ) → able N.ins k v ≡ true) where
    -- ── what the new values and the marks are ──
    pub new-equation : (r : Route) (old s : Values) (v : ℕ) → new N r old s k v ≡ routing N r old s k (new N r old s k) v
    new-equation r old s = solution N.ins (routing N r old s k) (routing-local r old s k) old k ends

    pub marked-equation : (old s : Values) (v : ℕ) → marked N old s k v ≡ marking N old s (marked N old s k) v
    marked-equation old s = solution N.ins (marking N old s) (marking-local old s) (λ v. false) k ends

    same_old : (f g : Values) (i : ℕ) → differs f g i ≡ false → f i ≡ g i
    same_old f g i e = eq_z-yes (f i) (g i) (not-false (eq_z (f i) (g i)) e)

    -- an unmarked variable keeps its value
    unmarked-keeps : (old s : Values) (v : ℕ) → marked N old s k v ≡ false → new N mark-guided old s k v ≡ old v
    unmarked-keeps old s v e = new-equation mark-guided old s v ∙ go (N.made v) (marked N old s k v) e (sym (marked-equation old s v) ∙ e)
      where
        go : (m b : Bool) → b ≡ false → cond m (any (marked N old s k) (N.ins v)) (differs s old v) ≡ false
            → cond m (cond b (N.form v (new N mark-guided old s k)) (old v)) (s v) ≡ old v
        go true true p q = absurd (true≢false p)
        go true false p q = refl
        go false b p q = same_old s old v q

    -- where a made variable is left out, no input of it changed
    pub quiet : (r : Route) (old s : Values) (v : ℕ) → N.made v ≡ true → live N r old s k (new N r old s k) v ≡ false
        → (i : ℕ) → Memᴰ i (N.ins v) → new N r old s k i ≡ old i
    quiet input-to-output old s v m e i h = same_old (new N input-to-output old s k) old i (any_out (differs (new N input-to-output old s k) old) (N.ins v) e h)
    quiet output-to-input old s v m e i h = absurd (true≢false e)
    quiet mark-guided old s v m e i h = unmarked-keeps old s i (any_out (marked N old s k) (N.ins v) (go (N.made v) m (sym (marked-equation old s v) ∙ e)) h)
      where
        go : (b : Bool) → b ≡ true → cond b (any (marked N old s k) (N.ins v)) (differs s old v) ≡ false → any (marked N old s k) (N.ins v) ≡ false
        go true p q = q
        go false p q = absurd (false≢true p)

    -- ── over fresh stored values ──
    -- each route's new values are those worked out afresh
    pub route-fresh : (r : Route) (old s : Values) → Fresh N old → (v : ℕ) → new N r old s k v ≡ afresh N s k v
    route-fresh r old s fresh = afresh-unique N L k ends s val (λ v. new-equation r old s v ∙ go v (N.made v) refl (live N r old s k val v) refl (fresh v))
      where
        val : Values
        val = new N r old s k

        go : (v : ℕ) (m : Bool) → N.made v ≡ m → (l : Bool) → live N r old s k val v ≡ l → old v ≡ cond m (N.form v old) (old v)
            → cond m (cond l (N.form v val) (old v)) (s v) ≡ cond m (N.form v val) (s v)
        go v true p true q e = refl
        go v true p false q e = e ∙ form-same N L v old val (λ i h. sym (quiet r old s v p q i h))
        go v false p l q e = refl

    -- over what the calls left, each route answers with the values worked out afresh from the start values with the kept moves and this one in
    pub step-fresh : (r : Route) (mv : List (ℕ × ℤ)) (old s : Values) → ((v : ℕ) → old v ≡ afresh N s k v)
        → (v : ℕ) → new N r old (moved mv old) k v ≡ afresh N (moved mv s) k v
    step-fresh r mv old s h v =
        route-fresh r old (moved mv old) (subst⁻¹ (Fresh N) (fun_ext h) (afresh-fresh N L k ends s)) v
        ∙ ap (λ (z : ℕ → Values). z k v) (afresh-alike N (moved mv old) (moved mv s) (moved-alike N mv old s (λ w p. h w ∙ afresh-search N L k ends s w p)))
