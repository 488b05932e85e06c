-- A rule that looks only at a variable's inputs has one solution: where every chain of inputs ends, equations from variable to variable
-- determine their answer, and enough uses of the rule reach it.
-- Assumes nothing.
use Prim.Native.Nat.{ℕ, zero, suc, ◌≤◌}
use native.Mathlib.Nat.{le_of_suc-le-suc, not-suc-le-zero, le_refl, le-suc}
use mathlib.Core.Bool.{true, false≢true}
use mathlib.Core.List.{List, Memᴰ}
use mathlib.Core.Path.{◌≡◌, ◌∙◌, sym}
use Rattle.paper.specs.Net.{Rule, runs, able}
use Rattle.paper.proofs.Lists.{all_in}

module _ (dep : ℕ → List ℕ) {A : Type 0} (rule : Rule A) where
  -- the rule looks at v's inputs alone
  abbrev pub Local : Type 0
  Local = (f g : ℕ → A) (v : ℕ) → ((i : ℕ) → Memᴰ i (dep v) → f i ≡ g i) → rule f v ≡ rule g v

  abbrev pub Solves : (ℕ → A) → Type 0
  Solves f = (v : ℕ) → f v ≡ rule f v

module _ (dep : ℕ → List ℕ) where
  pub able-suc : (k v : ℕ) → able dep (suc k) v ≡ true → {i : ℕ} → Memᴰ i (dep v) → able dep k i ≡ true
  unfolding runs
  able-suc k v e m = all_in (able dep k) (dep v) e m

module _ (dep : ℕ → List ℕ) {A : Type 0} (rule : Rule A) (loc : Local dep rule) where
  -- more uses of the rule, or another start, change nothing
  pub stable : (a b : ℕ → A) (k i j v : ℕ) → able dep k v ≡ true → k ≤ i → k ≤ j → runs rule a i v ≡ runs rule b j v
  unfolding runs
  stable a b zero i j v e p q = absurd (false≢true e)
  stable a b (suc k) zero j v e p q = absurd (not-suc-le-zero p)
  stable a b (suc k) (suc i) zero v e p q = absurd (not-suc-le-zero q)
  stable a b (suc k) (suc i) (suc j) v e p q =
      loc (runs rule a i) (runs rule b j) v (λ w m. stable a b k i j w (able-suc dep k v e m) (le_of_suc-le-suc p) (le_of_suc-le-suc q))

  -- two solutions are one
  pub unique : (f g : ℕ → A) → Solves dep rule f → Solves dep rule g → (k v : ℕ) → able dep k v ≡ true → f v ≡ g v
  unfolding runs
  unique f g hf hg zero v e = absurd (false≢true e)
  unique f g hf hg (suc k) v e = hf v ∙ loc f g v (λ w m. unique f g hf hg k w (able-suc dep k v e m)) ∙ sym (hg v)

  -- and the rule used k times over is one
  pub solution : (a : ℕ → A) (k : ℕ) → ((v : ℕ) → able dep k v ≡ true) → Solves dep rule (runs rule a k)
  unfolding runs
  solution a k h v = stable a a k k (suc k) v (h v) (le_refl k) (le-suc k)

  pub is-solution : (a f : ℕ → A) (k : ℕ) → ((v : ℕ) → able dep k v ≡ true) → Solves dep rule f → (v : ℕ) → f v ≡ runs rule a k v
  is-solution a f k h hf v = unique f (runs rule a k) hf (solution a k h) k v (h v)
