-- The greatest of what entries ask, entry by entry. Assumes nothing.
use Prim.Native.Nat.{ℕ, zero, suc, max, ◌≤◌, ◌<◌}
use native.Mathlib.Nat.{le_refl, lt_irrefl}
use native.Mathlib.Omega.{arith}
use mathlib.Core.List.{List, [], ◌∷◌, map, Memᴰ}
use mathlib.Core.Logic.{◌⊎◌, inl, inr}
use mathlib.Core.Path.{◌≡◌, refl, ap, sym, ◌∙◌, subst}
use Rattle.paper.specs.Lists.{greatest}

pub low_or : (a b : ℕ) → (a < b) ⊎ (b ≤ a)
low_or zero zero = inr (le_refl zero)
low_or zero (suc b) = inl (omega arith)
low_or (suc a) zero = inr (omega arith)
low_or (suc a) (suc b) = go (low_or a b)
  where
    go : (a < b) ⊎ (b ≤ a) → (suc a < suc b) ⊎ (suc b ≤ suc a)
    go (inl h) = inl (omega arith)
    go (inr h) = inr (omega arith)

-- ── over a list ──
-- the entries in `left` are still to be asked, and best is the greatest of what the others asked
pub record Asking (n : ℕ) (f : ℕ → ℕ) (all left : List ℕ) (best : ℕ) : Type 0 where
  pub whole : max best (greatest (map f left)) ≡ greatest (map f all)
  pub below : (i : ℕ) → Memᴰ i left → i < n

module _ (n : ℕ) (f : ℕ → ℕ) (all left : List ℕ) where
  pub asking-start : left ≡ all → ((i : ℕ) → Memᴰ i all → i < n) → Asking n f all left 0
  asking-start e h = record { whole = (let z : max 0 (greatest (map f left)) ≡ greatest (map f left) = omega arith in z) ∙ ap (λ l. greatest (map f l)) e; below = λ i m. h i (subst (Memᴰ i) e m) }

  module _ (best : ℕ) (A : Asking n f all left best) where
    pub asking-end : left ≡ [] → best ≡ greatest (map f all)
    asking-end e = let a = A.whole in let b : greatest (map f left) ≡ 0 = ap (λ l. greatest (map f l)) e in omega arith

    module _ (w : ℕ) (more : List ℕ) (e : left ≡ w ∷ more) where
      pub asking-below : w < n
      asking-below = A.below w (subst (Memᴰ w) (sym e) (Memᴰ.head refl))

      pub asking-next : (x best' : ℕ) → x ≡ f w → best' ≡ max best x → Asking n f all more best'
      asking-next x best' p q = record {
        whole = let a = A.whole in let b : greatest (map f left) ≡ max (f w) (greatest (map f more)) = ap (λ l. greatest (map f l)) e in omega arith;
        below = λ i m. A.below i (subst (Memᴰ i) (sym e) (Memᴰ.tail m));
      }

-- the greatest is at least each, and is one of them
pub greatest-in : (f : ℕ → ℕ) (xs : List ℕ) {i : ℕ} → Memᴰ i xs → f i ≤ greatest (map f xs)
greatest-in f (x ∷ xs) (Memᴰ.head q) = rw q (omega arith)
greatest-in f (x ∷ xs) (Memᴰ.tail m) = let h = greatest-in f xs m in omega arith
greatest-in f [] {i = i} x' = elim x' [ ]

pub greatest-hit : (f : ℕ → ℕ) (xs : List ℕ) → 0 < greatest (map f xs) → (i : ℕ) × Memᴰ i xs × (greatest (map f xs) ≡ f i)
greatest-hit f [] h = absurd (lt_irrefl 0 h)
greatest-hit f (x ∷ xs) h = go (low_or (f x) (greatest (map f xs))) (greatest-hit f xs)
  where
    go : (f x < greatest (map f xs)) ⊎ (greatest (map f xs) ≤ f x) → (0 < greatest (map f xs) → (i : ℕ) × Memᴰ i xs × (greatest (map f xs) ≡ f i))
        → (i : ℕ) × Memᴰ i (x ∷ xs) × (max (f x) (greatest (map f xs)) ≡ f i)
    go (inl l) ih = let (i, m, e) = ih (omega arith) in (i, Memᴰ.tail m, (let z : max (f x) (greatest (map f xs)) ≡ greatest (map f xs) = omega arith in z) ∙ e)
    go (inr l) ih = (x, Memᴰ.head refl, omega arith)

pub greatest-le : (f : ℕ → ℕ) (xs : List ℕ) (b : ℕ) → ((i : ℕ) → Memᴰ i xs → f i ≤ b) → greatest (map f xs) ≤ b
greatest-le f [] b h = omega arith
greatest-le f (x ∷ xs) b h = let a = h x (Memᴰ.head refl) in let r = greatest-le f xs b (λ i m. h i (Memᴰ.tail m)) in omega arith
