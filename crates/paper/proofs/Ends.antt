-- Whether every chain of links down from a variable ends, over links below n that may close: n steps tell, since a chain that goes on passes a variable twice.
-- Assumes nothing.
use Prim.Native.Nat.{ℕ, zero, suc, ◌≤◌, ◌<◌}
use native.Mathlib.Nat.{le_of_suc-le-suc, not-suc-le-zero}
use native.Mathlib.Omega.{arith}
use mathlib.Core.Logic.{◌⊎◌, inl, inr}
use mathlib.Core.Bool.{Bool, true, false, false≢true}
use mathlib.Core.List.{List, Memᴰ}
use mathlib.Core.Path.{◌≡◌, refl, sym, subst⁻¹}
use Rattle.paper.specs.Lists.{all}
use Rattle.paper.specs.Net.{runs, able, Depends, direct, through}
use Rattle.paper.proofs.Lists.{all_in, all_of}
use Rattle.paper.proofs.Fix.{able-suc}
use Rattle.paper.proofs.Circle.{Comes, circle-unable}
use Rattle.paper.proofs.Saturate.{both_ways, Within, saturated}

module _ (dep : ℕ → List ℕ) where
  -- ── more steps ──
  pub able-more : (k j v : ℕ) → k ≤ j → able dep k v ≡ true → able dep j v ≡ true
  unfolding runs
  able-more zero j v l e = absurd (false≢true e)
  able-more (suc k) zero v l e = absurd (not-suc-le-zero l)
  able-more (suc k) (suc j) v l e = all_of (able dep j) (dep v) (λ i m. able-more k j i (le_of_suc-le-suc l) (able-suc dep k v e m))

  pub able-some : (k v : ℕ) → able dep k v ≡ true → 0 < k
  unfolding runs
  able-some zero v e = absurd (false≢true e)
  able-some (suc k) v e = omega arith

  -- a variable without links
  pub able-free : (k v : ℕ) → 0 < k → ((i : ℕ) → Memᴰ i (dep v) → ⊥) → able dep k v ≡ true
  unfolding runs
  able-free zero v l h = absurd (not-suc-le-zero l)
  able-free (suc k) v l h = all_of (able dep k) (dep v) (λ i m. absurd (h i m))

  -- ── down the chains ──
  pub able-link : (k v i : ℕ) → able dep k v ≡ true → Memᴰ i (dep v) → able dep k i ≡ true
  able-link zero v i e m = absurd (not-suc-le-zero (able-some zero v e))
  able-link (suc k) v i e m = able-more k (suc k) i (omega arith) (able-suc dep k v e m)

  pub able-down : (k : ℕ) {v w : ℕ} → Depends dep v w → able dep k v ≡ true → able dep k w ≡ true
  able-down k (direct {v} {w} m) e = able-link k v w e m
  able-down k (through {v} {i} m d) e = able-down k d (able-link k v i e m)

  -- a variable that comes to one that depends on itself has a chain that does not end
  pub comes-unable : (k v : ℕ) → Comes dep v → able dep k v ≡ false
  comes-unable k v (w, to, round) = go (able dep k v) refl
    where
      at : able dep k v ≡ true → (v ≡ w) ⊎ Depends dep v w → able dep k w ≡ true
      at e (inl q) = subst⁻¹ (λ u. able dep k u ≡ true) (sym q) e
      at e (inr d) = able-down k d e

      go : (b : Bool) → able dep k v ≡ b → able dep k v ≡ false
      go true e = absurd (circle-unable dep k w round (at e to))
      go false e = e

  -- what holds of a variable if it holds of each that it has a link to holds where every chain ends
  pub able-least : (P : ℕ → Type 0) → ((v : ℕ) → ((i : ℕ) → Memᴰ i (dep v) → P i) → P v) → (k v : ℕ) → able dep k v ≡ true → P v
  unfolding runs
  able-least P h zero v e = absurd (false≢true e)
  able-least P h (suc k) v e = h v (λ i m. able-least P h k i (able-suc dep k v e m))

  -- ── fewer links ──
  pub able-fewer : (part : ℕ → List ℕ) → ((v i : ℕ) → Memᴰ i (part v) → Memᴰ i (dep v)) → (k v : ℕ) → able dep k v ≡ true → able part k v ≡ true
  unfolding runs
  able-fewer part h zero v e = e
  able-fewer part h (suc k) v e = all_of (able part k) (part v) (λ i m. able-fewer part h k i (able-suc dep k v e (h v i m)))

  -- ── n steps tell ──
  module _ (n : ℕ) (below : (v i : ℕ) → Memᴰ i (dep v) → i < n) where
    all-mono : (f g : ℕ → Bool) → Within n f g → (v : ℕ) → all f (dep v) ≡ true → all g (dep v) ≡ true
    all-mono f g h v e = all_of g (dep v) (λ i m. h i (below v i m) (all_in f (dep v) e m))

    pub able-links : (v : ℕ) → v < n → ((i : ℕ) → Memᴰ i (dep v) → able dep n i ≡ true) → able dep n v ≡ true
    able-links v l h = saturated n (λ f w. all f (dep w)) all-mono v l (all_of (able dep n) (dep v) h)

    -- every chain down from v ends exactly if every chain does down from each that v has a link to
    pub able-equation : (v : ℕ) → v < n → able dep n v ≡ all (able dep n) (dep v)
    able-equation v l =
        both_ways (able dep n v) (all (able dep n) (dep v)) (λ e. all_of (able dep n) (dep v) (λ i. able-link n v i e))
        (λ e. able-links v l (λ i m. all_in (able dep n) (dep v) e m))
