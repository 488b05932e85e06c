-- Where a route evaluates nothing the values stand as the move left them: so new values are found in the trial row wherever they are asked.
-- Assumes nothing.
use Prim.Native.Nat.{ℕ, zero, suc, ◌<◌}
use native.Mathlib.Nat.{lt_irrefl}
use mathlib.Core.Bool.{Bool, true, false, cond, ◌&&◌, ◌||◌, true≢false}
use mathlib.Core.List.{List}
use mathlib.Core.Path.{◌≡◌, refl, ap, sym, ◌∙◌}
use lib.ListN.{length, get_or}
use Rattle.paper.specs.Lists.{any, nat}
use Rattle.paper.specs.Net.{Net, Values, Route, input-to-output, output-to-input, mark-guided, live, routing, new, works, runs, asking, needed, evaluated}
use Rattle.paper.proofs.Lists.{any_at, clash, eqb-self}

module _ (N : Net) (k : ℕ) (old s : Values) where
  -- ── an asked variable is needed ──
  reached : (working : ℕ → Bool) (f : Values) (v j : ℕ) → 0 < j → runs (asking N working f v) (λ a. false) j v ≡ true
  unfolding runs
  reached working f v zero h = absurd (lt_irrefl 0 h)
  reached working f v (suc j) h = ap (◌|| (working v && any (runs (asking N working f v) (λ a. false) j) (N.asks v f))) (eqb-self v)

  module _ (some : 0 < k) (asked : List ℕ) (i : ℕ) (l : i < length asked) where
    not-both : (working : ℕ → Bool) (f : Values) → (working (nat asked i) && needed N working f asked k (nat asked i)) ≡ false → working (nat asked i) ≡ false
    not-both working f e = go (working (nat asked i)) (needed N working f asked k (nat asked i)) (any_at (runs (asking N working f (nat asked i)) (λ a. false) k) asked) e
      where
        go : (a b : Bool) → (b ≡ false → (j d : ℕ) → j < length asked → runs (asking N working f (nat asked i)) (λ a. false) k (get_or asked j d) ≡ false) → (a && b) ≡ false → a ≡ false
        go false b h e' = refl
        go true b h e' = clash (reached working f (nat asked i) k some) (h e' i 0 l)

    -- so it is evaluated if it is worked out
    pub asked-idle : (r : Route) → evaluated N r old s asked k (nat asked i) ≡ false → works N r old s k (nat asked i) ≡ false
    asked-idle input-to-output e = e
    asked-idle output-to-input e = not-both (works N output-to-input old s k) (new N output-to-input old s k) e
    asked-idle mark-guided e = not-both (works N mark-guided old s k) (new N mark-guided old s k) e

  -- what is not worked out has the value that the move left it
  module _ (same : (v : ℕ) → N.made v ≡ true → s v ≡ old v) (r : Route) (ruled : (v : ℕ) → new N r old s k v ≡ routing N r old s k (new N r old s k) v) where
    pub idle-new : (v : ℕ) → works N r old s k v ≡ false → new N r old s k v ≡ s v
    idle-new v e = ruled v ∙ go (N.made v) refl (live N r old s k (new N r old s k) v) e
      where
        go : (a : Bool) → N.made v ≡ a → (b : Bool) → (a && b) ≡ false → cond a (cond b (N.form v (new N r old s k)) (old v)) (s v) ≡ s v
        go true p true q = absurd (true≢false q)
        go true p false q = sym (same v p)
        go false p b q = refl

    -- and with those worked out it has all new values, where nothing that is worked out is left out
    pub all_new : (asked : List ℕ) (v : ℕ) → (evaluated N r old s asked k v ≡ false → works N r old s k v ≡ false)
        → cond (evaluated N r old s asked k v) (new N r old s k v) (s v) ≡ new N r old s k v
    all_new asked v h = go (evaluated N r old s asked k v) refl
      where
        go : (b : Bool) → evaluated N r old s asked k v ≡ b → cond b (new N r old s k v) (s v) ≡ new N r old s k v
        go true e = refl
        go false e = sym (idle-new v (h e))
