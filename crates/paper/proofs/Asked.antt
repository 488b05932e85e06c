-- The needed variables where chains may close: n uses of the rule are enough, so the asked ones are needed, and with a variable that is worked out what its
-- formula looks at. `Needed` of `paper` says that they are the least such. Assumes nothing.
use Prim.Native.Nat.{ℕ, ◌<◌}
use mathlib.Core.Logic.{◌⊎◌, inl, inr}
use mathlib.Core.Bool.{Bool, true, false, ◌&&◌, ◌||◌}
use mathlib.Core.List.{List, Memᴰ}
use mathlib.Core.Path.{◌≡◌, ap, ap₂, subst⁻¹}
use lib.Dec.{eqb}
use borrow.Author.Tests.{eqb-true}
use Rattle.paper.specs.Lists.{any}
use Rattle.paper.specs.Net.{Net, Values, runs, asking, needed}
use Rattle.paper.proofs.Lists.{any-in, any-has, and_left, and_right, or_right, eqb-self}
use Rattle.paper.proofs.Lawful.{Lawful}
use Rattle.paper.proofs.Saturate.{Within, saturated, least}
use Rattle.paper.proofs.Depends.{or_cases}

module _ (N : Net) (L : Lawful N) (n : ℕ) (below : (v i : ℕ) → Memᴰ i (N.ins v) → i < n) (working : ℕ → Bool) (f : Values) where
  -- asking a comes to asking v
  abbrev reaches : ℕ → ℕ → Bool
  reaches v a = runs (asking N working f v) (λ b. false) n a

  asked_low : (a i : ℕ) → Memᴰ i (N.asks a f) → i < n
  asked_low a i m = below a i (L.asks-in a f i m)

  -- what asking a comes to: a itself, or what one that it looks at comes to
  abbrev Comes : (ℕ → Bool) → ℕ → ℕ → Type 0
  Comes g v a = (a ≡ v) ⊎ ((working a ≡ true) × ((i : ℕ) × Memᴰ i (N.asks a f) × (g i ≡ true)))

  asking-comes : (g : ℕ → Bool) (v a : ℕ) → asking N working f v g a ≡ true → Comes g v a
  asking-comes g v a e = go (or_cases (eqb a v) (working a && any g (N.asks a f)) e)
    where
      go : (eqb a v ≡ true) ⊎ ((working a && any g (N.asks a f)) ≡ true) → Comes g v a
      go (inl q) = inl (eqb-true a v q)
      go (inr q) = inr (and_left (working a) (any g (N.asks a f)) q, any-has g (N.asks a f) (and_right (working a) (any g (N.asks a f)) q))

  asking-mono : (v : ℕ) (g h : ℕ → Bool) → Within n g h → (a : ℕ) → asking N working f v g a ≡ true → asking N working f v h a ≡ true
  asking-mono v g h w a e = go (asking-comes g v a e)
    where
      go : Comes g v a → asking N working f v h a ≡ true
      go (inl q) = ap (◌|| (working a && any h (N.asks a f))) (subst⁻¹ (λ u. eqb u v ≡ true) q (eqb-self v))
      go (inr (y, (i, m, q))) = or_right (eqb a v) (ap₂ ◌&&◌ y (any-in h (N.asks a f) m (w i (asked_low a i m) q)))

  reach-self : (v : ℕ) → v < n → reaches v v ≡ true
  reach-self v l = saturated n (asking N working f v) (asking-mono v) v l (ap (◌|| (working v && any (reaches v) (N.asks v f))) (eqb-self v))

  reach_step : (v a i : ℕ) → a < n → working a ≡ true → Memᴰ i (N.asks a f) → reaches v i ≡ true → reaches v a ≡ true
  reach_step v a i l y m e = saturated n (asking N working f v) (asking-mono v) a l (or_right (eqb a v) (ap₂ ◌&&◌ y (any-in (reaches v) (N.asks a f) m e)))

  -- where asking b comes to a, it comes to what a looks at
  reach-on : (a i : ℕ) → working a ≡ true → Memᴰ i (N.asks a f) → (b : ℕ) → b < n → reaches a b ≡ true → reaches i b ≡ true
  reach-on a i y m b l e = least (asking N working f a) (λ u. u < n → reaches i u ≡ true) step n b e l
    where
      step : (g : ℕ → Bool) → ((u : ℕ) → g u ≡ true → u < n → reaches i u ≡ true) → (u : ℕ) → asking N working f a g u ≡ true → u < n → reaches i u ≡ true
      step g h u q low = go (asking-comes g a u q)
        where
          go : Comes g a u → reaches i u ≡ true
          go (inl same) = reach_step i u i low (subst⁻¹ (λ w. working w ≡ true) same y) (subst⁻¹ (λ w. Memᴰ i (N.asks w f)) same m) (reach-self i (asked_low a i m))
          go (inr (z, (j, k, r))) = reach_step i u j low z k (h j r (asked_low u j k))

  module _ (asked : List ℕ) (within : (a : ℕ) → Memᴰ a asked → a < n) where
    pub needed-asked : (a : ℕ) → Memᴰ a asked → needed N working f asked n a ≡ true
    needed-asked a m = any-in (reaches a) asked m (reach-self a (within a m))

    pub needed-closed : (a i : ℕ) → needed N working f asked n a ≡ true → working a ≡ true → Memᴰ i (N.asks a f) → needed N working f asked n i ≡ true
    needed-closed a i e y m = let (b, k, r) = any-has (reaches a) asked e in any-in (reaches i) asked k (reach-on a i y m b (within b k) r)
