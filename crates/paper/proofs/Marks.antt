-- Marks of route 3 where chains may close: they spread from what changed to all that depends on it, n uses of the rule being enough. Assumes nothing.
use Prim.Native.Nat.{ℕ, zero, suc, ◌<◌}
use native.Mathlib.Nat.{not-suc-le-zero}
use mathlib.Core.Bool.{Bool, true, false, cond}
use mathlib.Core.List.Memᴰ
use mathlib.Core.List.{Memᴰ}
use mathlib.Core.Path.{◌≡◌, refl, ap, sym, ◌∙◌, subst}
use Rattle.paper.specs.Lists.{any}
use Rattle.paper.specs.Net.{Net, Values, runs, differs, marking, marked}
use Rattle.paper.proofs.Lists.{any-in, any-has, any_out}
use Rattle.paper.proofs.Lawful.{Lawful}
use Rattle.paper.proofs.Saturate.{Within, settled}

module _ (N : Net) (L : Lawful N) (n : ℕ) (below : (v i : ℕ) → Memᴰ i (N.ins v) → i < n) (bound : (v : ℕ) → N.made v ≡ true → v < n) (0<n : 0 < n) where
  module _ (old s : Values) where
    marking-mono : (f g : ℕ → Bool) → Within n f g → (v : ℕ) → marking N old s f v ≡ true → marking N old s g v ≡ true
    marking-mono f g h v e = go (N.made v) e
      where
        go : (b : Bool) → cond b (any f (N.ins v)) (differs s old v) ≡ true → cond b (any g (N.ins v)) (differs s old v) ≡ true
        go true q = let (i, m, r) = any-has f (N.ins v) q in any-in g (N.ins v) m (h i (below v i m) r)
        go false q = q

    -- one use is enough at a search variable
    at-search : (k v : ℕ) → 0 < k → N.made v ≡ false → marked N old s k v ≡ differs s old v
    unfolding runs
    at-search zero v h e = absurd (not-suc-le-zero h)
    at-search (suc k) v h e = ap (λ b. cond b (any (marked N old s k) (N.ins v)) (differs s old v)) e

    -- the marks meet their rule
    pub marked-equation : (v : ℕ) → marked N old s n v ≡ marking N old s (marked N old s n) v
    marked-equation v = go (N.made v) refl
      where
        go : (b : Bool) → N.made v ≡ b → marked N old s n v ≡ marking N old s (marked N old s n) v
        go true e = settled n (marking N old s) marking-mono v (bound v e)
        go false e = at-search n v 0<n e ∙ sym (ap (λ b. cond b (any (marked N old s n) (N.ins v)) (differs s old v)) e)

    -- an unmarked variable has no marked input
    pub marks-closed : (v i : ℕ) → marked N old s n v ≡ false → Memᴰ i (N.ins v) → marked N old s n i ≡ false
    marks-closed v i e m = go (N.made v) refl (sym (marked-equation v) ∙ e)
      where
        go : (b : Bool) → N.made v ≡ b → cond b (any (marked N old s n) (N.ins v)) (differs s old v) ≡ false → marked N old s n i ≡ false
        go true p q = any_out (marked N old s n) (N.ins v) q m
        go false p q = absurd (Memᴰ.not-nil (subst (Memᴰ i) (L.bare v p) m))
