-- What `determined` says of tables: a variable is determined exactly if all that it needs is, one that needs itself is not, and one that is not comes to one that
-- needs itself; and a walk along the choices finds the determined variables with their values. Assumes nothing.
use Prim.Native.Nat.{ℕ, ◌≤◌, ◌<◌}
use mathlib.Core.Bool.{Bool, true, false}
use mathlib.Core.List.Memᴰ
use mathlib.Core.List.{List, Memᴰ}
use mathlib.Core.Path.{◌≡◌, refl, ap, subst}
use lib.IntN.{ℤ}
use Rattle.paper.specs.Lists.{all}
use Rattle.paper.specs.Net.{Values, able, valuation, Route, live, routing, new, moved}
use Rattle.paper.specs.Tables.{Tables, net, is_made, inputs_of, asks_of}
use Rattle.paper.proofs.Lawful.{lawful}
use Rattle.paper.proofs.Fresh.{Fresh, Alike, afresh-alike}
use Rattle.paper.proofs.Circle.{Comes, unable-comes}
use Rattle.paper.specs.Chains.{worth, needs, determined}
use Rattle.paper.proofs.Ends.{able-more, able-least, able-free, able-equation, comes-unable}
use Rattle.paper.proofs.Determined.{Determined, followed-value, followed-able, afresh-search, afresh-meets, next-able, afresh-fresh, quiet, route-fresh, new-equation, step-fresh}

module _ (t : Tables) (s : Values) where
  -- ── a walk along the choices ──
  -- values f that meet the sentence over a set of variables, closed over what f has looked at, are the fresh ones where no chain of these goes round
  pub followed : (f : Values) (P : ℕ → Type 0) → ((v : ℕ) → P v → f v ≡ valuation (net t) s f v) → ((v i : ℕ) → P v → Memᴰ i (asks_of t v f) → P i)
      → (k v : ℕ) → k ≤ t.n → P v → able (λ w. asks_of t w f) k v ≡ true → (determined t s v ≡ true) × (worth t s v ≡ f v)
  unfolding determined
  followed f P meets closed k v l p e = (
    able-more (needs t s) k t.n v l (followed-able (net t) (lawful t) s f P meets closed t.n k v p e l),
    followed-value (net t) (lawful t) s f P meets closed k t.n v p e l,
  )

  -- ── what a determined variable needs, and its value ──
  pub comes-undetermined : (v : ℕ) → Comes (needs t s) v → determined t s v ≡ false
  unfolding determined
  comes-undetermined v c = comes-unable (needs t s) t.n v c

  pub worth-meets : (v : ℕ) → determined t s v ≡ true → worth t s v ≡ valuation (net t) s (worth t s) v
  unfolding determined
  worth-meets v e = afresh-meets (net t) (lawful t) s t.n v e

  -- the determined variables are the least set that holds a variable if it holds all that it needs
  pub determined-least : (P : ℕ → Type 0) → ((v : ℕ) → ((i : ℕ) → Memᴰ i (needs t s v) → P i) → P v) → (v : ℕ) → determined t s v ≡ true → P v
  unfolding determined
  determined-least P h v e = able-least (needs t s) P h t.n v e

  -- a search variable
  pub search-determined : (v : ℕ) → 0 < t.n → is_made t v ≡ false → (determined t s v ≡ true) × (worth t s v ≡ s v)
  unfolding determined
  search-determined v 0<n e = (
    able-free (needs t s) t.n v 0<n (λ i m. Memᴰ.not-nil (subst (Memᴰ i) ((lawful t).bare v e) ((lawful t).asks-in v (worth t s) i m))),
    afresh-search (net t) (lawful t) s t.n 0<n v e,
  )

  module _ (below : (v i : ℕ) → Memᴰ i (inputs_of t v) → i < t.n) where
    pub needs-low : (v i : ℕ) → Memᴰ i (needs t s v) → i < t.n
    needs-low v i m = below v i ((lawful t).asks-in v (worth t s) i m)

    -- ── what determined means ──
    pub determined-equation : (v : ℕ) → v < t.n → determined t s v ≡ all (determined t s) (needs t s v)
    unfolding determined
    determined-equation v l = able-equation (needs t s) t.n needs-low v l

    pub undetermined-comes : (v : ℕ) → v < t.n → determined t s v ≡ false → Comes (needs t s) v
    unfolding determined
    undetermined-comes v l e = unable-comes (needs t s) t.n needs-low v l e

    -- a variable is determined once what it looks at is and has its value
    pub next-determined : (f : Values) (v : ℕ) → v < t.n → ((i : ℕ) → Memᴰ i (asks_of t v f) → (determined t s i ≡ true) × (f i ≡ worth t s i))
        → (determined t s v ≡ true) × (worth t s v ≡ valuation (net t) s f v)
    unfolding determined
    next-determined f v l h = next-able (net t) (lawful t) s t.n below f v l h

    -- if each variable of the model is determined so is every number, as the laws of the routes ask
    pub determined-everywhere : (bound : (v : ℕ) → is_made t v ≡ true → v < t.n) → 0 < t.n → ((v : ℕ) → v < t.n → determined t s v ≡ true) → Determined (net t) (lawful t) t.n s
    unfolding determined
    determined-everywhere bound 0<n h v = go (is_made t v) refl
      where
        go : (b : Bool) → is_made t v ≡ b → determined t s v ≡ true
        go true e = h v (bound v e)
        go false e = (search-determined v 0<n e).0

-- only the search variables' values matter
pub worth-alike : (t : Tables) (s u : Values) → Alike (net t) s u → worth t s ≡ worth t u
worth-alike t s u h = ap (λ (z : ℕ → Values). z t.n) (afresh-alike (net t) s u h)

pub determined-alike : (t : Tables) (s u : Values) → Alike (net t) s u → determined t s ≡ determined t u
unfolding determined
determined-alike t s u h = ap (λ (z : Values). able (λ v. asks_of t v z) t.n) (worth-alike t s u h)

-- the new values of a route meet its rule
abbrev pub Ruled : Tables → Route → Values → Values → Type 0
Ruled t r old s = (v : ℕ) → new (net t) r old s t.n v ≡ routing (net t) r old s t.n (new (net t) r old s t.n) v

-- ── where every variable is determined ──
module _ (t : Tables) (below : (v i : ℕ) → Memᴰ i (inputs_of t v) → i < t.n) (bound : (v : ℕ) → is_made t v ≡ true → v < t.n) (0<n : 0 < t.n) where
  -- as stored values the fresh ones are fresh
  pub worth-fresh : (s : Values) → ((v : ℕ) → determined t s v ≡ true) → Fresh (net t) (worth t s)
  unfolding determined
  worth-fresh s det = afresh-fresh (net t) (lawful t) t.n s det

  -- where a route leaves a made variable out, no input of it changed
  pub worth-quiet : (r : Route) (old s : Values) (v : ℕ) → live (net t) r old s t.n (new (net t) r old s t.n) v ≡ false
      → (i : ℕ) → Memᴰ i (inputs_of t v) → new (net t) r old s t.n i ≡ old i
  worth-quiet = quiet (net t) (lawful t) t.n below bound 0<n

  module _ (s : Values) (det : (v : ℕ) → determined t s v ≡ true) (old : Values) (stored : Fresh (net t) old) where
    -- over fresh stored values each route's new values are those worked out afresh, and meet the route's rule
    pub route-worth : (r : Route) (v : ℕ) → new (net t) r old s t.n v ≡ worth t s v
    unfolding determined
    route-worth = route-fresh (net t) (lawful t) t.n below bound 0<n s det old stored

    pub route-meets : (r : Route) → Ruled t r old s
    unfolding determined
    route-meets = new-equation (net t) (lawful t) t.n below bound 0<n s det old stored

  -- over what the calls left each route answers with the values worked out afresh from the start values with the kept moves and this one in
  pub step-worth : (r : Route) (mv : List (ℕ × ℤ)) (old s : Values) → ((v : ℕ) → determined t s v ≡ true) → ((v : ℕ) → determined t (moved mv s) v ≡ true)
      → ((v : ℕ) → old v ≡ worth t s v) → (v : ℕ) → new (net t) r old (moved mv old) t.n v ≡ worth t (moved mv s) v
  unfolding determined
  step-worth = step-fresh (net t) (lawful t) t.n below bound 0<n
