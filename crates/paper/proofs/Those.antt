-- The numbers below a bound that pass a test, as a list: they are in it, and nothing else is; and lists one after another. Assumes nothing.
use Prim.Native.Nat.{ℕ, zero, suc, ◌+◌, ◌≤◌, ◌<◌}
use native.Mathlib.Nat.{le_refl, not-suc-le-zero}
use native.Mathlib.Omega.{arith}
use mathlib.Core.Logic.{◌⊎◌, inl, inr}
use mathlib.Core.Bool.{Bool, true, false, cond}
use mathlib.Core.List.Memᴰ
use mathlib.Core.List.{List, [], ◌∷◌, ◌++◌, Memᴰ}
use mathlib.Core.Path.{◌≡◌, refl, ap, ap₂, sym, ◌∙◌}
use lib.Dec.{leb, ltb}
use lib.ListN.{length, length-append}
use borrow.Author.Tests.{leb-true, leb-false, ltb-true, ltb-false}
use Rattle.paper.specs.Lists.{size, those, joined}

-- what falls at no step falls nowhere
pub never-falls : (f : ℕ → ℕ) → ((k : ℕ) → f k ≤ f (suc k)) → (i j : ℕ) → i ≤ j → f i ≤ f j
never-falls f step i zero h = let z : i ≡ 0 = omega arith in rw z (le_refl (f 0))
never-falls f step i (suc j) h = go (leb i j) refl (never-falls f step i j)
  where
    go : (b : Bool) → leb i j ≡ b → (i ≤ j → f i ≤ f j) → f i ≤ f (suc j)
    go true q ih = let a = ih (leb-true i j q) in let e = step j in omega arith
    go false q ih = let k = leb-false i j q in let z : i ≡ suc j = omega arith in rw z (le_refl (f (suc j)))

module _ (p : ℕ → Bool) where
  pub those-in : (k r : ℕ) → Memᴰ r (those p k) → (r < k) × (p r ≡ true)
  those-in (suc k) r m = go (p k) refl (Memᴰ.append_cases (those p k) m) (those-in k r)
    where
      go : (b : Bool) → p k ≡ b → Memᴰ r (those p k) ⊎ Memᴰ r (cond b (k ∷ []) []) → (Memᴰ r (those p k) → (r < k) × (p r ≡ true)) → (r < suc k) × (p r ≡ true)
      go b e (inl n) ih = let h = ih n in (omega arith, h.1)
      go true e (inr (Memᴰ.head q)) ih = (omega arith, ap p q ∙ e)
      go false e (inr x5) ih = elim x5 [ ]
      go true e (inr (Memᴰ.tail x10)) ih = elim x10 [ ]
  those-in zero r m = elim m [ ]

  pub those-has : (k r : ℕ) → r < k → p r ≡ true → Memᴰ r (those p k)
  those-has zero r l e = absurd (not-suc-le-zero l)
  those-has (suc k) r l e = go (ltb r k) refl (those-has k r)
    where
      rest : List ℕ
      rest = cond (p k) (k ∷ []) []

      go : (b : Bool) → ltb r k ≡ b → (r < k → p r ≡ true → Memᴰ r (those p k)) → Memᴰ r (those p k ++ rest)
      go true q ih = Memᴰ.append_left rest (ih (ltb-true r k q) e)
      go false q ih =
          let h = ltb-false r k q in let same : r ≡ k = omega arith in
          Memᴰ.append_right (those p k) (rw (sym (ap p same) ∙ e) (Memᴰ.head same))

pub those-same : (p q : ℕ → Bool) (k : ℕ) → ((r : ℕ) → r < k → p r ≡ q r) → those p k ≡ those q k
those-same p q zero h = refl
those-same p q (suc k) h = ap₂ (λ l b. l ++ cond b (k ∷ []) []) (those-same p q k (λ r l. h r (omega arith))) (h k (le_refl (suc k)))

-- ── lists one after another ──
module _ {A : Type 0} (f : ℕ → List A) where
  pub joined_same : (g : ℕ → List A) (n : ℕ) → ((v : ℕ) → v < n → f v ≡ g v) → joined f n ≡ joined g n
  joined_same g zero h = refl
  joined_same g (suc n) h = ap₂ ◌++◌ (joined_same g n (λ v l. h v (omega arith))) (h n (le_refl (suc n)))

  pub joined-none : (n : ℕ) → ((v : ℕ) → v < n → f v ≡ []) → joined f n ≡ []
  joined-none zero h = refl
  joined-none (suc n) h = ap₂ ◌++◌ (joined-none n (λ v l. h v (omega arith))) (h n (le_refl (suc n)))

  pub joined-grown : (n : ℕ) → length (joined f (suc n)) ≡ length (joined f n) + length (f n)
  joined-grown n = length-append (joined f n) (f n)

  pub joined-le : (i j : ℕ) → i ≤ j → length (joined f i) ≤ length (joined f j)
  joined-le = never-falls (λ n. length (joined f n)) (λ n. let e = joined-grown n in omega arith)

-- numbers below k + 1 in place of below k: one more for each list that has k
pub joined-those : (p : ℕ → ℕ → Bool) (k n : ℕ) → length (joined (λ v. those (p v) (suc k)) n) ≡ length (joined (λ v. those (p v) k) n) + size (λ v. p v k) n
joined-those p k zero = refl
joined-those p k (suc n) =
    let a = joined-grown (λ v. those (p v) (suc k)) n in let b = joined-grown (λ v. those (p v) k) n in
    let c = length-append (those (p n) k) (cond (p n k) (k ∷ []) []) in
    go (p n k) (joined-those p k n) a b c
  where
    go : (b : Bool) → length (joined (λ v. those (p v) (suc k)) n) ≡ length (joined (λ v. those (p v) k) n) + size (λ v. p v k) n
        → length (joined (λ v. those (p v) (suc k)) (suc n)) ≡ length (joined (λ v. those (p v) (suc k)) n) + length (those (p n) (suc k))
        → length (joined (λ v. those (p v) k) (suc n)) ≡ length (joined (λ v. those (p v) k) n) + length (those (p n) k)
        → length (those (p n) (suc k)) ≡ length (those (p n) k) + length (cond b (k ∷ []) [])
        → length (joined (λ v. those (p v) (suc k)) (suc n)) ≡ length (joined (λ v. those (p v) k) (suc n)) + cond b (suc (size (λ v. p v k) n)) (size (λ v. p v k) n)
    go true ih a b c = omega arith
    go false ih a b c = omega arith
