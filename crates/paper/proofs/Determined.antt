-- Values worked out afresh where chains of inputs may close: at a variable from which no chain of the inputs that are looked at goes round, n uses of the rule
-- reach the one value that meets the paper's sentence; and if that holds at every variable, each route comes to these values from stored ones that are fresh.
-- Assumes nothing.
use Prim.Native.Nat.{ℕ, zero, suc, pred, ◌≤◌, ◌<◌}
use native.Mathlib.Nat.{le_of_suc-le-suc, not-suc-le-zero, le_refl}
use native.Mathlib.Omega.{arith}
use mathlib.Core.Bool.{Bool, true, false, cond, true≢false, false≢true}
use mathlib.Core.List.{List, Memᴰ}
use mathlib.Core.Path.{◌≡◌, refl, ap, sym, ◌∙◌, subst⁻¹, fun_ext}
use lib.IntN.{ℤ, pos}
use borrow.Author.Tests.{not-false}
use Rattle.integers.specs.Integers.{eq_z}
use Rattle.integers.proofs.Order.{eq_z-yes}
use Rattle.paper.specs.Lists.{any}
use Rattle.paper.specs.Net.{Values, Net, Rule, runs, able, valuation, afresh, differs, marked, Route, input-to-output, output-to-input, mark-guided, live, routing, new, moved}
use Rattle.paper.proofs.Lists.{all_of, any_out}
use Rattle.paper.proofs.Fix.{able-suc}
use Rattle.paper.proofs.Lawful.{Lawful}
use Rattle.paper.proofs.Fresh.{Fresh, Alike, form-same, afresh-alike, moved-alike}
use Rattle.paper.proofs.Ends.{able-more, able-links}
use Rattle.paper.proofs.Marks.{marked-equation, marks-closed}

runs-step : {A : Type 0} (rule : Rule A) (base : ℕ → A) (n v : ℕ) → 0 < n → runs rule base n v ≡ rule (runs rule base (pred n)) v
unfolding runs
runs-step rule base zero v h = absurd (not-suc-le-zero h)
runs-step rule base (suc n) v h = refl

module _ (N : Net) (L : Lawful N) (s : Values) where
  -- values that agree on what a formula looks at give the same
  settle : (f g : Values) (v : ℕ) → ((i : ℕ) → Memᴰ i (N.asks v f) → g i ≡ f i) → valuation N s g v ≡ valuation N s f v
  settle f g v h = ap (λ z. cond (N.made v) z (s v)) (sym (L.looks v f g (λ i m. sym (h i m))))

  step_back : (j v : ℕ) → 0 < j → afresh N s j v ≡ valuation N s (afresh N s (pred j)) v
  step_back = runs-step (valuation N s) (λ u. pos zero)

  -- ── values found by following the choices are the fresh ones: over a set P of variables that they meet the sentence at, closed over what is looked at ──
  module _ (f : Values) (P : ℕ → Type 0) (meets : (v : ℕ) → P v → f v ≡ valuation N s f v) (closed : (v i : ℕ) → P v → Memᴰ i (N.asks v f) → P i) where
    abbrev looked : ℕ → List ℕ
    looked w = N.asks w f

    pub followed-value : (k j v : ℕ) → P v → able looked k v ≡ true → k ≤ j → afresh N s j v ≡ f v
    unfolding runs
    followed-value zero j v p e l = absurd (false≢true e)
    followed-value (suc k) j v p e l =
        step_back j v (omega arith)
        ∙ settle f (afresh N s (pred j)) v (λ i m. followed-value k (pred j) i (closed v i p m) (able-suc looked k v e m) (omega arith))
        ∙ sym (meets v p)

    pub followed-able : (n k v : ℕ) → P v → able looked k v ≡ true → k ≤ n → able (λ w. N.asks w (afresh N s n)) k v ≡ true
    unfolding runs
    followed-able n zero v p e l = e
    followed-able n (suc k) v p e l =
        let same = L.asks-same v f (afresh N s n) (λ i m. sym (followed-value k n i (closed v i p m) (able-suc looked k v e m) (omega arith))) in
        all_of (able (λ w. N.asks w (afresh N s n)) k) (N.asks v (afresh N s n)) (λ i m.
        let q = subst⁻¹ (Memᴰ i) same m in followed-able n k i (closed v i p q) (able-suc looked k v e q) (omega arith))

  module _ (n : ℕ) where
    abbrev fresh : Values
    fresh = afresh N s n

    -- what is needed: what the formulas look at over the fresh values
    abbrev need : ℕ → List ℕ
    need w = N.asks w fresh

    pub afresh-search : 0 < n → Alike N fresh s
    afresh-search h v p = step_back n v h ∙ rw p

    -- ── at a determined variable ──
    -- more uses of the rule change nothing
    pub afresh-settled : (k j v : ℕ) → able need k v ≡ true → k ≤ n → k ≤ j → afresh N s j v ≡ fresh v
    unfolding runs
    afresh-settled zero j v e p q = absurd (false≢true e)
    afresh-settled (suc k) j v e p q =
        step_back j v (omega arith)
        ∙ settle fresh (afresh N s (pred j)) v (λ i m. afresh-settled k (pred j) i (able-suc need k v e m) (omega arith) (omega arith))
        ∙ sym (settle fresh (afresh N s (pred n)) v (λ i m. afresh-settled k (pred n) i (able-suc need k v e m) (omega arith) (omega arith)))
        ∙ sym (step_back n v (omega arith))

    -- the fresh value meets the sentence
    pub afresh-meets : (v : ℕ) → able need n v ≡ true → fresh v ≡ valuation N s fresh v
    unfolding runs
    afresh-meets v e = sym (afresh-settled n (suc n) v e (le_refl n) (omega arith))

    -- and no other values do
    pub afresh-only : (f : Values) → ((v : ℕ) → f v ≡ valuation N s f v) → (v : ℕ) → able need n v ≡ true → f v ≡ fresh v
    unfolding runs
    afresh-only f h v e = go n v e (le_refl n)
      where
        go : (k u : ℕ) → able need k u ≡ true → k ≤ n → f u ≡ fresh u
        go zero u q l = absurd (false≢true q)
        go (suc k) u q l = h u ∙ settle fresh f u (λ i m. go k i (able-suc need k u q m) (omega arith)) ∙ sym (afresh-meets u (able-more need (suc k) n u l q))

    -- over other values that meet the sentence the same is looked at
    pub able-over : (f : Values) → ((v : ℕ) → f v ≡ valuation N s f v) → (k v : ℕ) → k ≤ n → able need k v ≡ true → able (λ w. N.asks w f) k v ≡ true
    unfolding runs
    able-over f h zero v l e = e
    able-over f h (suc k) v l e =
        let same = L.asks-same v fresh f (λ i m. sym (afresh-only f h i (able-more need k n i (omega arith) (able-suc need k v e m)))) in
        all_of (able (λ w. N.asks w f) k) (N.asks v f) (λ i m. able-over f h k i (omega arith) (able-suc need k v e (subst⁻¹ (Memᴰ i) same m)))

    -- a variable is determined once what it looks at is and has its fresh value: so a walk along the choices goes on
    pub next-able : (below : (v i : ℕ) → Memᴰ i (N.ins v) → i < n) (f : Values) (v : ℕ) → v < n
        → ((i : ℕ) → Memᴰ i (N.asks v f) → (able need n i ≡ true) × (f i ≡ fresh i)) → (able need n v ≡ true) × (fresh v ≡ valuation N s f v)
    next-able below f v l h =
        let same = L.asks-same v f fresh (λ i m. (h i m).1) in
        let e = able-links need n (λ w i m. below w i (L.asks-in w fresh i m)) v l (λ i m. (h i (subst⁻¹ (Memᴰ i) same m)).0) in
        (e, afresh-meets v e ∙ settle f fresh v (λ i m. sym (h i m).1))

-- ── where every variable is determined ──
module _ (N : Net) (L : Lawful N) (n : ℕ) where
  abbrev pub Determined : Values → Type 0
  Determined s = (v : ℕ) → able (λ w. N.asks w (afresh N s n)) n v ≡ true

  -- only the search variables' values matter
  pub determined-alike : (s u : Values) → Alike N s u → (v : ℕ) → able (λ w. N.asks w (afresh N s n)) n v ≡ able (λ w. N.asks w (afresh N u n)) n v
  determined-alike s u h v = ap (λ (z : ℕ → Values). able (λ w. N.asks w (z n)) n v) (afresh-alike N s u h)

  module _ (s : Values) (det : Determined s) where
    pub afresh-equation : (v : ℕ) → afresh N s n v ≡ valuation N s (afresh N s n) v
    afresh-equation v = afresh-meets N L s n v (det v)

    pub afresh-unique : (f : Values) → ((v : ℕ) → f v ≡ valuation N s f v) → (v : ℕ) → f v ≡ afresh N s n v
    afresh-unique f h v = afresh-only N L s n f h v (det v)

    -- as stored values they are fresh
    pub afresh-fresh : Fresh N (afresh N s n)
    afresh-fresh v = afresh-equation v ∙ go (N.made v) (afresh-equation v)
      where
        go : (m : Bool) → afresh N s n v ≡ cond m (N.form v (afresh N s n)) (s v)
            → cond m (N.form v (afresh N s n)) (s v) ≡ cond m (N.form v (afresh N s n)) (afresh N s n v)
        go true e = refl
        go false e = sym e

  -- ── each route comes to the fresh values ──
  module _ (below : (v i : ℕ) → Memᴰ i (N.ins v) → i < n) (bound : (v : ℕ) → N.made v ≡ true → v < n) (0<n : 0 < n) where
    same_old : (f g : Values) (i : ℕ) → differs f g i ≡ false → f i ≡ g i
    same_old f g i e = eq_z-yes (f i) (g i) (not-false (eq_z (f i) (g i)) e)

    -- the route's rule used j times over
    abbrev pass : Route → Values → Values → ℕ → Values
    pass r old s j = runs (routing N r old s n) old j

    -- an unmarked variable keeps its value
    unmarked-keeps : (old s : Values) (j v : ℕ) → marked N old s n v ≡ false → pass mark-guided old s j v ≡ old v
    unfolding runs
    unmarked-keeps old s zero v e = refl
    unmarked-keeps old s (suc j) v e = go (N.made v) (marked N old s n v) e (sym (marked-equation N L n below bound 0<n old s v) ∙ e)
      where
        go : (m b : Bool) → b ≡ false → cond m (any (marked N old s n) (N.ins v)) (differs s old v) ≡ false
            → cond m (cond b (N.form v (pass mark-guided old s j)) (old v)) (s v) ≡ old v
        go true true p q = absurd (true≢false p)
        go true false p q = refl
        go false b p q = same_old s old v q

    -- where a made variable is left out, no input of it changed
    left_out : (r : Route) (old s : Values) (j v : ℕ) → live N r old s n (pass r old s j) v ≡ false → (i : ℕ) → Memᴰ i (N.ins v) → pass r old s j i ≡ old i
    left_out input-to-output old s j v e i m = same_old (pass input-to-output old s j) old i (any_out (differs (pass input-to-output old s j) old) (N.ins v) e m)
    left_out output-to-input old s j v e i m = absurd (true≢false e)
    left_out mark-guided old s j v e i m = unmarked-keeps old s j i (marks-closed N L n below bound 0<n old s v i e m)

    pub quiet : (r : Route) (old s : Values) (v : ℕ) → live N r old s n (new N r old s n) v ≡ false → (i : ℕ) → Memᴰ i (N.ins v) → new N r old s n i ≡ old i
    quiet r old s v = left_out r old s n v

    module _ (s : Values) (det : Determined s) (old : Values) (stored : Fresh N old) where
      -- what is left out would come to the same
      route-valuation : (r : Route) (j v : ℕ) → pass r old s (suc j) v ≡ valuation N s (pass r old s j) v
      unfolding runs
      route-valuation r j v = go (N.made v) (live N r old s n (pass r old s j) v) refl (stored v)
        where
          go : (m b : Bool) → live N r old s n (pass r old s j) v ≡ b → old v ≡ cond m (N.form v old) (old v)
              → cond m (cond b (N.form v (pass r old s j)) (old v)) (s v) ≡ cond m (N.form v (pass r old s j)) (s v)
          go true true q e = refl
          go true false q e = e ∙ form-same N L v old (pass r old s j) (λ i m. sym (left_out r old s j v q i m))
          go false b q e = refl

      route-settles : (r : Route) (k j v : ℕ) → able (λ w. N.asks w (afresh N s n)) k v ≡ true → k ≤ j → pass r old s j v ≡ afresh N s n v
      unfolding runs
      route-settles r zero j v e l = absurd (false≢true e)
      route-settles r (suc k) zero v e l = absurd (not-suc-le-zero l)
      route-settles r (suc k) (suc j) v e l =
          route-valuation r j v
          ∙ settle N L s (afresh N s n) (pass r old s j) v (λ i m. route-settles r k j i (able-suc (λ w. N.asks w (afresh N s n)) k v e m) (le_of_suc-le-suc l))
          ∙ sym (afresh-equation s det v)

      pub route-fresh : (r : Route) (v : ℕ) → new N r old s n v ≡ afresh N s n v
      route-fresh r v = route-settles r n n v (det v) (le_refl n)

      pub new-equation : (r : Route) (v : ℕ) → new N r old s n v ≡ routing N r old s n (new N r old s n) v
      unfolding runs
      new-equation r v = route-fresh r v ∙ sym (route-settles r n (suc n) v (det v) (omega arith))

    -- over what the calls left, each route answers with the values worked out afresh from the start values with the kept moves and this one in
    pub step-fresh : (r : Route) (mv : List (ℕ × ℤ)) (old s : Values) → Determined s → Determined (moved mv s) → ((v : ℕ) → old v ≡ afresh N s n v)
        → (v : ℕ) → new N r old (moved mv old) n v ≡ afresh N (moved mv s) n v
    step-fresh r mv old s before after h v =
        let alike : Alike N (moved mv old) (moved mv s) = moved-alike N mv old s (λ w p. h w ∙ afresh-search N L s n 0<n w p) in
        route-fresh (moved mv old) (λ w. determined-alike (moved mv old) (moved mv s) alike w ∙ after w) old (subst⁻¹ (Fresh N) (fun_ext h) (afresh-fresh s before)) r v
        ∙ ap (λ (z : ℕ → Values). z n v) (afresh-alike N (moved mv old) (moved mv s) alike)
