-- How many variables below n pass a test, and how that grows: one more place, one more. A list of distinct numbers below n has at most n.
-- Assumes nothing.
use Prim.Native.Nat.{ℕ, zero, suc, ◌≤◌, ◌<◌}
use native.Mathlib.Nat.{le_refl, not-suc-le-zero, lt_irrefl}
use native.Mathlib.Omega.{arith}
use mathlib.Core.Logic.{◌⊎◌, inl, inr, ◌≢◌}
use mathlib.Core.Bool.{Bool, true, false, cond, ◌||◌, true≢false, false≢true}
use mathlib.Core.List.{List, [], ◌∷◌, Memᴰ}
use mathlib.Core.Path.{◌≡◌, refl, ap, ◌∙◌}
use lib.Dec.{eqb, ltb}
use lib.ListN.{length}
use borrow.Author.Tests.{eqb-true, ne_eqb, ltb-true, ltb-false}
use Rattle.paper.specs.Lists.{any, size}
use Rattle.paper.proofs.Lists.{clash, same_or, eqb-self}

pub size-le : (p : ℕ → Bool) (n : ℕ) → size p n ≤ n
size-le p zero = le_refl zero
size-le p (suc n) = go (p n) (size-le p n)
  where
    go : (b : Bool) → size p n ≤ n → cond b (suc (size p n)) (size p n) ≤ suc n
    go true h = omega arith
    go false h = omega arith

pub size_same : (p q : ℕ → Bool) (n : ℕ) → ((v : ℕ) → v < n → p v ≡ q v) → size p n ≡ size q n
size_same p q zero h = refl
size_same p q (suc n) h = rw (h n (le_refl (suc n)), size_same p q n (λ v l. h v (omega arith)))

-- q is p with x added
pub size-add : (p q : ℕ → Bool) (x n : ℕ) → x < n → p x ≡ false → q x ≡ true → ((v : ℕ) → v ≢ x → q v ≡ p v) → size q n ≡ suc (size p n)
size-add p q x zero l px qx h = absurd (not-suc-le-zero l)
size-add p q x (suc n) l px qx h = go (eqb n x) refl (size-add p q x n)
  where
    last : (a b : Bool) → a ≡ b → size q n ≡ suc (size p n) → cond a (suc (size q n)) (size q n) ≡ suc (cond b (suc (size p n)) (size p n))
    last true true e i = ap suc i
    last true false e i = absurd (true≢false e)
    last false true e i = absurd (false≢true e)
    last false false e i = i

    go : (b : Bool) → eqb n x ≡ b → (x < n → p x ≡ false → q x ≡ true → ((v : ℕ) → v ≢ x → q v ≡ p v) → size q n ≡ suc (size p n)) → size q (suc n) ≡ suc (size p (suc n))
    go true e ih = let same : n ≡ x = eqb-true n x e in rw (same, px, qx) (ap suc (rw same at (size_same q p n (λ v lt. h v (omega arith)))))
    go false e ih =
        let ne : n ≢ x = λ z. clash (rw z (eqb-self x)) e in
        last (q n) (p n) (h n ne) (ih (omega arith) px qx h)

size_none : (n : ℕ) → size (λ v. false) n ≡ zero
size_none zero = refl
size_none (suc n) = size_none n

-- at most one more passes if x passes too; so of the numbers in a list there are at most as many as it is long
size-or : (q : ℕ → Bool) (x n : ℕ) → size (λ v. eqb v x || q v) n ≤ suc (size q n)
size-or q x zero = omega arith
size-or q x (suc n) = go (eqb n x) refl (q n) (size-or q x n)
  where
    go : (a : Bool) → eqb n x ≡ a → (b : Bool) → size (λ v. eqb v x || q v) n ≤ suc (size q n)
        → cond (a || b) (suc (size (λ v. eqb v x || q v) n)) (size (λ v. eqb v x || q v) n) ≤ suc (cond b (suc (size q n)) (size q n))
    go true e true ih = omega arith
    go true e false ih =
        let same = eqb-true n x e in
        let s = size_same (λ v. eqb v x || q v) q n (λ v l. ap (◌|| q v) (ne_eqb v x (λ z. lt_irrefl v (omega arith)))) in
        omega arith
    go false e true ih = omega arith
    go false e false ih = ih

pub size_in : (xs : List ℕ) (n : ℕ) → size (λ v. any (eqb v) xs) n ≤ length xs
size_in [] n = let z = size_none n in omega arith
size_in (x ∷ xs) n = let a = size-or (λ v. any (eqb v) xs) x n in let b = size_in xs n in omega arith

abbrev pub Distinct : List ℕ → Type 0
Distinct [] = Unit {0}
Distinct (x ∷ xs) = (any (eqb x) xs ≡ false) × Distinct xs

pub distinct-size : (n : ℕ) (xs : List ℕ) → ((i : ℕ) → Memᴰ i xs → i < n) → Distinct xs → size (λ v. any (eqb v) xs) n ≡ length xs
distinct-size n [] h d = size_none n
distinct-size n (x ∷ xs) h d =
    size-add (λ v. any (eqb v) xs) (λ v. eqb v x || any (eqb v) xs) x n (h x (Memᴰ.head refl)) d.0 (ap (◌|| any (eqb x) xs) (eqb-self x))
    (λ v ne. ap (◌|| any (eqb v) xs) (ne_eqb v x ne))
    ∙ ap suc (distinct-size n xs (λ i m. h i (Memᴰ.tail m)) d.1)

pub distinct-length : (n : ℕ) (xs : List ℕ) → ((i : ℕ) → Memᴰ i xs → i < n) → Distinct xs → length xs ≤ n
distinct-length n xs h d = rw (← (distinct-size n xs h d)) (size-le (λ v. any (eqb v) xs) n)

-- a test that none passes fails everywhere
pub size-zero : (p : ℕ → Bool) (n : ℕ) → size p n ≡ 0 → (v : ℕ) → v < n → p v ≡ false
size-zero p zero e v l = absurd (not-suc-le-zero l)
size-zero p (suc n) e v l = go (p n) refl e (ltb v n) refl (size-zero p n)
  where
    go : (a : Bool) → p n ≡ a → cond a (suc (size p n)) (size p n) ≡ 0 → (b : Bool) → ltb v n ≡ b → (size p n ≡ 0 → (u : ℕ) → u < n → p u ≡ false) → p v ≡ false
    go true q h b r ih = absurd (omega arith)
    go false q h true r ih = ih h v (ltb-true v n r)
    go false q h false r ih = let k = ltb-false v n r in let same : v ≡ n = omega arith in rw same q

-- a test that as many pass as there are is passed by all
pub size-full : (p : ℕ → Bool) (n v : ℕ) → size p n ≡ n → v < n → p v ≡ true
size-full p zero v e l = absurd (not-suc-le-zero l)
size-full p (suc n) v e l = go (p n) refl e (eqb v n) refl (size-le p n) (size-full p n v)
  where
    go : (b : Bool) → p n ≡ b → cond b (suc (size p n)) (size p n) ≡ suc n → (c : Bool) → eqb v n ≡ c → size p n ≤ n → (size p n ≡ n → v < n → p v ≡ true) → p v ≡ true
    go true q h true s le ih = rw (eqb-true v n s) q
    go true q h false s le ih = let ne : v ≢ n = λ z. clash (rw z (eqb-self n)) s in ih (omega arith) (omega arith)
    go false q h c s le ih = absurd (lt_irrefl n (omega arith))

-- a list of n distinct numbers below n holds each of them
pub distinct-all : (n : ℕ) (xs : List ℕ) → ((i : ℕ) → Memᴰ i xs → i < n) → Distinct xs → length xs ≡ n → (v : ℕ) → v < n → any (eqb v) xs ≡ true
distinct-all n xs h d e v l = size-full (λ w. any (eqb w) xs) n v (distinct-size n xs h d ∙ e) l

pub size-all : (p : ℕ → Bool) (n : ℕ) → ((v : ℕ) → v < n → p v ≡ true) → size p n ≡ n
size-all p zero h = refl
size-all p (suc n) h = rw (h n (le_refl (suc n)), size-all p n (λ v l. h v (omega arith)))

-- what passes one test passes the other
pub size_mono : (p q : ℕ → Bool) (n : ℕ) → ((v : ℕ) → p v ≡ true → q v ≡ true) → size p n ≤ size q n
size_mono p q zero h = le_refl zero
size_mono p q (suc n) h = go (p n) refl (q n) refl (size_mono p q n h)
  where
    go : (a : Bool) → p n ≡ a → (b : Bool) → q n ≡ b → size p n ≤ size q n → cond a (suc (size p n)) (size p n) ≤ cond b (suc (size q n)) (size q n)
    go true e true f ih = omega arith
    go true e false f ih = clash (h n e) f
    go false e true f ih = omega arith
    go false e false f ih = ih

-- and one more only the other
pub size-more : (p q : ℕ → Bool) (x n : ℕ) → x < n → p x ≡ false → q x ≡ true → ((v : ℕ) → p v ≡ true → q v ≡ true) → size p n < size q n
size-more p q x zero l px qx h = absurd (not-suc-le-zero l)
size-more p q x (suc n) l px qx h = go (p n) refl (q n) refl (same_or x n) (size_mono p q n h) (size-more p q x n)
  where
    go : (a : Bool) → p n ≡ a → (b : Bool) → q n ≡ b → (x ≡ n) ⊎ (x ≢ n) → size p n ≤ size q n
        → (x < n → p x ≡ false → q x ≡ true → ((v : ℕ) → p v ≡ true → q v ≡ true) → size p n < size q n)
        → cond a (suc (size p n)) (size p n) < cond b (suc (size q n)) (size q n)
    go true e b f (inl s) m ih = clash (ap p s ∙ e) px
    go false e true f (inl s) m ih = omega arith
    go false e false f (inl s) m ih = clash qx (ap q s ∙ f)
    go true e true f (inr s) m ih = let r = ih (omega arith) px qx h in omega arith
    go true e false f (inr s) m ih = clash (h n e) f
    go false e true f (inr s) m ih = omega arith
    go false e false f (inr s) m ih = ih (omega arith) px qx h
