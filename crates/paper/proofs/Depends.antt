-- The tests of `Chains` over links below n say what they are called: one is passed exactly if a chain of links leads from a variable to another, and variables
-- of one group are those that chains lead between both ways, or the same. Assumes nothing.
use Prim.Native.Nat.{ℕ, ◌<◌}
use mathlib.Core.Logic.{◌⊎◌, inl, inr}
use mathlib.Core.Bool.{Bool, true, false, ◌&&◌, ◌||◌}
use mathlib.Core.List.{List, Memᴰ}
use mathlib.Core.Path.{◌≡◌, refl, ap, ap₂, sym, subst, subst⁻¹}
use lib.Dec.{eqb}
use borrow.Author.Tests.{eqb-true, eq-eqb}
use Rattle.paper.specs.Net.{Depends, direct, through}
use Rattle.paper.proofs.Lists.{any-in, any-has, and_left, and_right, or_right, eqb-self, clash}
use Rattle.paper.specs.Chains.{depending, depends, together, grouped}
use Rattle.paper.proofs.Saturate.{both_ways, Within, saturated, least}

pub or_cases : (a b : Bool) → (a || b) ≡ true → (a ≡ true) ⊎ (b ≡ true)
or_cases true b e = inl refl
or_cases false b e = inr e

module _ (dep : ℕ → List ℕ) where
  pub chain : {v i w : ℕ} → Depends dep v i → Depends dep i w → Depends dep v w
  chain (direct m) d = through m d
  chain (through m e) d = through m (chain e d)

  -- v and w reach each other
  abbrev pub Mutual : ℕ → ℕ → Type 0
  Mutual v w = Depends dep v w × Depends dep w v

  -- v and w are of one group
  abbrev pub SameGroup : ℕ → ℕ → Type 0
  SameGroup v w = (v ≡ w) ⊎ Mutual v w

  pub same-sym : {v w : ℕ} → SameGroup v w → SameGroup w v
  same-sym (inl e) = inl (sym e)
  same-sym (inr d) = inr (d.1, d.0)

  pub same-trans : {u v w : ℕ} → SameGroup u v → SameGroup v w → SameGroup u w
  same-trans {u} {v} {w} (inl e) s = subst⁻¹ (λ x. SameGroup x w) e s
  same-trans {u} {v} {w} (inr d) (inl e) = inr (subst (Mutual u) e d)
  same-trans (inr d) (inr c) = inr (chain d.0 c.0, chain c.1 d.1)

  -- a chain that goes on from a group goes on from each of it, and one that comes to a group comes to each
  pub same_from : {u v w : ℕ} → SameGroup u v → Depends dep v w → Depends dep u w
  same_from {u} {v} {w} (inl e) d = subst⁻¹ (λ x. Depends dep x w) e d
  same_from (inr c) d = chain c.0 d

  pub same-to : {u v w : ℕ} → Depends dep u v → SameGroup v w → Depends dep u w
  same-to {u} d (inl e) = subst (Depends dep u) e d
  same-to d (inr c) = chain d c.0

module _ (dep : ℕ → List ℕ) (n : ℕ) (below : (v i : ℕ) → Memᴰ i (dep v) → i < n) where
  pub depends-low : {v w : ℕ} → Depends dep v w → w < n
  depends-low {v} {w} (direct m) = below v w m
  depends-low (through m d) = depends-low d

  -- ── a chain leads from v to w ──
  depending-mono : (w : ℕ) (f g : ℕ → Bool) → Within n f g → (v : ℕ) → depending dep w f v ≡ true → depending dep w g v ≡ true
  depending-mono w f g h v e =
      let (i, m, q) = any-has (λ i. eqb i w || f i) (dep v) e in any-in (λ i. eqb i w || g i) (dep v) m (go i m (or_cases (eqb i w) (f i) q))
    where
      go : (i : ℕ) → Memᴰ i (dep v) → (eqb i w ≡ true) ⊎ (f i ≡ true) → (eqb i w || g i) ≡ true
      go i m (inl q) = ap (◌|| g i) q
      go i m (inr q) = or_right (eqb i w) (h i (below v i m) q)

  by-link : (v i w : ℕ) → v < n → Memᴰ i (dep v) → (eqb i w || depends dep n i w) ≡ true → depends dep n v w ≡ true
  by-link v i w l m e = saturated n (depending dep w) (depending-mono w) v l (any-in (λ j. eqb j w || depends dep n j w) (dep v) m e)

  pub depends-yes : (v w : ℕ) → v < n → Depends dep v w → depends dep n v w ≡ true
  depends-yes v w l (direct m) = by-link v w w l m (ap (◌|| depends dep n w w) (eqb-self w))
  depends-yes v w l (through {i} m d) = by-link v i w l m (or_right (eqb i w) (depends-yes i w (below v i m) d))

  pub depends-is : (v w : ℕ) → depends dep n v w ≡ true → Depends dep v w
  depends-is v w e = least (depending dep w) (λ u. Depends dep u w) step n v e
    where
      step : (f : ℕ → Bool) → ((u : ℕ) → f u ≡ true → Depends dep u w) → (u : ℕ) → depending dep w f u ≡ true → Depends dep u w
      step f h u q = let (i, m, r) = any-has (λ j. eqb j w || f j) (dep u) q in go i m (or_cases (eqb i w) (f i) r)
        where
          go : (i : ℕ) → Memᴰ i (dep u) → (eqb i w ≡ true) ⊎ (f i ≡ true) → Depends dep u w
          go i m (inl x) = rw (← (eqb-true i w x)) (direct m)
          go i m (inr x) = through m (h i x)

  -- ── they are on one closed chain ──
  pub together-yes : (v w : ℕ) → Mutual dep v w → together dep n v w ≡ true
  together-yes v w (a, b) = ap₂ ◌&&◌ (depends-yes v w (depends-low b) a) (depends-yes w v (depends-low a) b)

  pub together-is : (v w : ℕ) → together dep n v w ≡ true → Mutual dep v w
  together-is v w e =
      (depends-is v w (and_left (depends dep n v w) (depends dep n w v) e), depends-is w v (and_right (depends dep n v w) (depends dep n w v) e))

  -- ── they are of one group ──
  pub grouped-yes : (v w : ℕ) → SameGroup dep v w → grouped dep n v w ≡ true
  grouped-yes v w (inl e) = ap (◌|| together dep n v w) (eq-eqb v w e)
  grouped-yes v w (inr d) = or_right (eqb v w) (together-yes v w d)

  pub grouped-is : (v w : ℕ) → grouped dep n v w ≡ true → SameGroup dep v w
  grouped-is v w e = go (or_cases (eqb v w) (together dep n v w) e)
    where
      go : (eqb v w ≡ true) ⊎ (together dep n v w ≡ true) → SameGroup dep v w
      go (inl q) = inl (eqb-true v w q)
      go (inr q) = inr (together-is v w q)

  pub grouped-not : (v w : ℕ) → grouped dep n v w ≡ false → SameGroup dep v w → ⊥
  grouped-not v w e s = clash (grouped-yes v w s) e

  -- a test that is passed exactly by the variables of one group is this one
  pub grouped-exactly : (b : Bool) (v w : ℕ) → (b ≡ true → SameGroup dep v w) → (SameGroup dep v w → b ≡ true) → b ≡ grouped dep n v w
  grouped-exactly b v w f g = both_ways b (grouped dep n v w) (λ e. grouped-yes v w (f e)) (λ e. g (grouped-is v w e))

  -- an equivalence
  pub grouped-self : (v : ℕ) → grouped dep n v v ≡ true
  grouped-self v = grouped-yes v v (inl refl)

  pub grouped-sym : (v w : ℕ) → grouped dep n v w ≡ grouped dep n w v
  grouped-sym v w = grouped-exactly (grouped dep n v w) w v (λ e. same-sym dep (grouped-is v w e)) (λ s. grouped-yes v w (same-sym dep s))

  -- variables of one group have the same group
  pub grouped-same : (u v w : ℕ) → grouped dep n u v ≡ true → grouped dep n u w ≡ grouped dep n v w
  grouped-same u v w e =
      grouped-exactly (grouped dep n u w) v w (λ q. same-trans dep (same-sym dep (grouped-is u v e)) (grouped-is u w q))
      (λ s. grouped-yes u w (same-trans dep (grouped-is u v e) s))
