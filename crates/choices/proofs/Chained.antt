-- Chains that end: one more link may stand in front, links that agree on what is reached have the same chains, and a search variable has no links.
-- Assumes nothing.
use Prim.Native.Nat.{ℕ, zero, suc}
use mathlib.Core.Bool.{true, false}
use mathlib.Core.List.Memᴰ
use mathlib.Core.List.{List, [], ◌∷◌, Memᴰ}
use mathlib.Core.Path.{◌≡◌, refl, ap, ◌∙◌, subst}
use Rattle.paper.specs.Lists.{all}
use Rattle.paper.specs.Net.{Values, Net, runs, able}
use Rattle.paper.proofs.Lists.{all_of, all_same}
use Rattle.paper.proofs.Lawful.{Lawful}

none_in : (xs : List ℕ) → ((i : ℕ) → Memᴰ i xs → ⊥) → xs ≡ []
none_in [] h = refl
none_in (x ∷ xs) h = absurd (h x (Memᴰ.head refl))

-- what is not made looks at nothing
pub asks-bare : (N : Net) → Lawful N → (v : ℕ) (f : Values) → N.made v ≡ false → N.asks v f ≡ []
asks-bare N L v f e = none_in (N.asks v f) (λ i m. Memᴰ.not-nil (subst (Memᴰ i) (L.bare v e) (L.asks-in v f i m)))

module _ (dep : ℕ → List ℕ) where
  pub able-step : (k v : ℕ) → ((i : ℕ) → Memᴰ i (dep v) → able dep k i ≡ true) → able dep (suc k) v ≡ true
  unfolding runs
  able-step k v h = all_of (able dep k) (dep v) h

  pub able-like : (dep' : ℕ → List ℕ) (p : ℕ → Type 0) → ((u : ℕ) → p u → dep u ≡ dep' u) → ((u : ℕ) → p u → (i : ℕ) → Memᴰ i (dep u) → p i)
      → (k v : ℕ) → p v → able dep k v ≡ able dep' k v
  unfolding runs
  able-like dep' p same on zero v h = refl
  able-like dep' p same on (suc k) v h =
      all_same (able dep k) (able dep' k) (dep v) (λ i m. able-like dep' p same on k i (on v h i m)) ∙ ap (all (able dep' k)) (same v h)
