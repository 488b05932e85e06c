-- The needed variables are the least set that holds the asked ones and, with a variable that is worked out, what its formula looks at.
-- Assumes nothing.
use Prim.Native.Nat.{ℕ, zero, suc}
use mathlib.Core.Bool.{Bool, true, false, ◌&&◌, ◌||◌, false≢true}
use mathlib.Core.List.{List, Memᴰ}
use mathlib.Core.Path.{◌≡◌, refl, ap, ap₂, sym, ◌∙◌, subst}
use lib.Dec.{eqb}
use borrow.Author.Tests.{eqb-true}
use Rattle.paper.specs.Lists.{any}
use Rattle.paper.specs.Net.{Values, Net, runs, able, asking, needed}
use Rattle.paper.proofs.Lists.{any-in, any-has, and_left, and_right, or_right, eqb-self}
use Rattle.paper.proofs.Fix.{solution, able-suc}
use Rattle.paper.proofs.Lawful.{Lawful}
use Rattle.paper.proofs.Routes.{asking-local}

module _ (N : Net) (works : ℕ → Bool) (f : Values) where
  -- asking a comes to asking v
  abbrev reaches : ℕ → ℕ → ℕ → Bool
  reaches k v a = runs (asking N works f v) (λ b. false) k a

  -- ── what is closed and holds the asked holds the needed ──
  module _ (P : ℕ → Type 0) (closed : (a i : ℕ) → P a → works a ≡ true → Memᴰ i (N.asks a f) → P i) where
    reach-least : (k v a : ℕ) → P a → reaches k v a ≡ true → P v
    unfolding runs
    reach-least zero v a p e = absurd (false≢true e)
    reach-least (suc k) v a p e = go (eqb a v) refl e (reach-least k v)
      where
        go : (b : Bool) → eqb a v ≡ b → (b || (works a && any (reaches k v) (N.asks a f))) ≡ true → ((i : ℕ) → P i → reaches k v i ≡ true → P v) → P v
        go true q h more = subst P (eqb-true a v q) p
        go false q h more =
            let (i, m, r) = any-has (reaches k v) (N.asks a f) (and_right (works a) (any (reaches k v) (N.asks a f)) h) in
            more i (closed a i p (and_left (works a) (any (reaches k v) (N.asks a f)) h) m) r

    pub needed-least : (asked : List ℕ) → ((a : ℕ) → Memᴰ a asked → P a) → (k v : ℕ) → needed N works f asked k v ≡ true → P v
    needed-least asked h k v e = let (a, m, r) = any-has (reaches k v) asked e in reach-least k v a (h a m) r

  -- ── the asked are needed, and what a needed variable looks at ──
  module _ (L : Lawful N) (k : ℕ) (ends : (v : ℕ) → able N.ins k v ≡ true) where
    equation : (v a : ℕ) → reaches k v a ≡ (eqb a v || (works a && any (reaches k v) (N.asks a f)))
    equation v a = solution N.ins (asking N works f v) (asking-local N L works f v) (λ b. false) k ends a

    reach-self : (v : ℕ) → reaches k v v ≡ true
    reach-self v = equation v v ∙ ap (◌|| (works v && any (reaches k v) (N.asks v f))) (eqb-self v)

    pub needed-asked : (asked : List ℕ) (a : ℕ) → Memᴰ a asked → needed N works f asked k a ≡ true
    needed-asked asked a m = any-in (reaches k a) asked m (reach-self a)

    step : (v a i : ℕ) → works a ≡ true → Memᴰ i (N.asks a f) → reaches k v i ≡ true → reaches k v a ≡ true
    step v a i w m e = equation v a ∙ or_right (eqb a v) (ap₂ ◌&&◌ w (any-in (reaches k v) (N.asks a f) m e))

    -- where asking b comes to a, it comes to what a looks at
    reach-on : (a i : ℕ) → works a ≡ true → Memᴰ i (N.asks a f) → (j b : ℕ) → able N.ins j b ≡ true → reaches k a b ≡ true → reaches k i b ≡ true
    unfolding runs
    reach-on a i w m zero b u e = absurd (false≢true u)
    reach-on a i w m (suc j) b u e = go (eqb b a) refl (sym (equation a b) ∙ e) (λ c n. reach-on a i w m j c (able-suc N.ins j b u (L.asks-in b f c n)))
      where
        go : (c : Bool) → eqb b a ≡ c → (c || (works b && any (reaches k a) (N.asks b f))) ≡ true
            → ((o : ℕ) → Memᴰ o (N.asks b f) → reaches k a o ≡ true → reaches k i o ≡ true) → reaches k i b ≡ true
        go true q h more = rw (eqb-true b a q) (step i a i w m (reach-self i))
        go false q h more =
            let (o, n, r) = any-has (reaches k a) (N.asks b f) (and_right (works b) (any (reaches k a) (N.asks b f)) h) in
            step i b o (and_left (works b) (any (reaches k a) (N.asks b f)) h) n (more o n r)

    pub needed-closed : (asked : List ℕ) (a i : ℕ) → needed N works f asked k a ≡ true → works a ≡ true → Memᴰ i (N.asks a f) → needed N works f asked k i ≡ true
    needed-closed asked a i e w m = let (b, n, r) = any-has (reaches k a) asked e in any-in (reaches k i) asked n (reach-on a i w m k b (ends b) r)
