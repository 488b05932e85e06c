-- The least place that fails: what every check reports. Assumes nothing.
use Prim.Native.Nat.{ℕ, zero, suc, ◌+◌, ◌≤◌, ◌<◌}
use native.Mathlib.Nat.{le_refl, not-suc-le-zero, lt_irrefl}
use native.Mathlib.Omega.{arith}
use mathlib.Core.Bool.{Bool, true, false, cond, ◌&&◌}
use mathlib.Core.Path.{◌≡◌, refl, ap, ap₂, sym, ◌∙◌}
use lib.Dec.{eqb, leb, ltb}
use borrow.Author.Tests.{ltb-true, ltb-false, le-leb, lt-leb, eqb-true, eq-eqb, ne_eqb}
use Rattle.paper.specs.Lists.{between, first_fail, all_below}
use Rattle.paper.proofs.Lists.{clash}

pub first_fail-le : (p : ℕ → Bool) (n : ℕ) → first_fail p n ≤ n
first_fail-le p zero = le_refl zero
first_fail-le p (suc n) = go (ltb (first_fail p n) n) (p n) (first_fail-le p n)
  where
    go : (a b : Bool) → first_fail p n ≤ n → cond a (first_fail p n) (cond b (suc n) n) ≤ suc n
    go true b h = omega arith
    go false true h = le_refl (suc n)
    go false false h = omega arith

pub first_fail-fails : (p : ℕ → Bool) (n : ℕ) → first_fail p n < n → p (first_fail p n) ≡ false
first_fail-fails p zero l = absurd (not-suc-le-zero l)
first_fail-fails p (suc n) l = go (ltb (first_fail p n) n) refl (p n) refl (first_fail-fails p n) l
  where
    go : (a : Bool) → ltb (first_fail p n) n ≡ a → (b : Bool) → p n ≡ b → (first_fail p n < n → p (first_fail p n) ≡ false)
        → cond a (first_fail p n) (cond b (suc n) n) < suc n → p (cond a (first_fail p n) (cond b (suc n) n)) ≡ false
    go true e b q ih h = ih (ltb-true (first_fail p n) n e)
    go false e true q ih h = absurd (lt_irrefl (suc n) h)
    go false e false q ih h = q

pub first_fail-before : (p : ℕ → Bool) (n v : ℕ) → v < first_fail p n → p v ≡ true
first_fail-before p zero v l = absurd (not-suc-le-zero l)
first_fail-before p (suc n) v l = go (ltb (first_fail p n) n) refl (p n) refl (first_fail-before p n v) l
  where
    go : (a : Bool) → ltb (first_fail p n) n ≡ a → (b : Bool) → p n ≡ b → (v < first_fail p n → p v ≡ true)
        → v < cond a (first_fail p n) (cond b (suc n) n) → p v ≡ true
    go true e b q ih h = ih h
    go false e true q ih h = last (ltb v n) refl
      where
        last : (c : Bool) → ltb v n ≡ c → p v ≡ true
        last true t = let low = ltb-false (first_fail p n) n e in let lv = ltb-true v n t in ih (omega arith)
        last false t = let lv = ltb-false v n t in let same : v ≡ n = omega arith in rw same q
    go false e false q ih h = let low = ltb-false (first_fail p n) n e in ih (omega arith)

pub first_fail-is : (p : ℕ → Bool) (n i : ℕ) → i < n → p i ≡ false → ((j : ℕ) → j < i → p j ≡ true) → i ≡ first_fail p n
first_fail-is p n i l e h =
    let low : first_fail p n < i → ⊥ = λ g. clash (h (first_fail p n) g) (first_fail-fails p n (omega arith)) in
    let high : i < first_fail p n → ⊥ = λ g. clash (first_fail-before p n i g) e in
    go (ltb (first_fail p n) i) refl (ltb i (first_fail p n)) refl low high
  where
    go : (a : Bool) → ltb (first_fail p n) i ≡ a → (b : Bool) → ltb i (first_fail p n) ≡ b → (first_fail p n < i → ⊥) → (i < first_fail p n → ⊥) → i ≡ first_fail p n
    go true q b r low high = absurd (low (ltb-true (first_fail p n) i q))
    go false q true r low high = absurd (high (ltb-true i (first_fail p n) r))
    go false q false r low high = let x = ltb-false (first_fail p n) i q in let y = ltb-false i (first_fail p n) r in omega arith

pub first_fail-none : (p : ℕ → Bool) (n : ℕ) → ((j : ℕ) → j < n → p j ≡ true) → n ≡ first_fail p n
first_fail-none p n h = go (ltb (first_fail p n) n) refl
  where
    go : (a : Bool) → ltb (first_fail p n) n ≡ a → n ≡ first_fail p n
    go true q = let l = ltb-true (first_fail p n) n q in clash (h (first_fail p n) l) (first_fail-fails p n l)
    go false q = let x = ltb-false (first_fail p n) n q in let y = first_fail-le p n in omega arith

-- ── every number below n passes ──
pub all_below-at : (p : ℕ → Bool) (n : ℕ) → all_below p n ≡ true → (v : ℕ) → v < n → p v ≡ true
all_below-at p n e v l = let h = eqb-true (first_fail p n) n e in first_fail-before p n v (omega arith)

pub below_all : (p : ℕ → Bool) (n : ℕ) → ((v : ℕ) → v < n → p v ≡ true) → all_below p n ≡ true
below_all p n h = eq-eqb (first_fail p n) n (sym (first_fail-none p n h))

pub all_below-none : (p : ℕ → Bool) (n : ℕ) (b : Bool) → b ≡ all_below p n → b ≡ true → n ≡ first_fail p n
all_below-none p n b e t = sym (eqb-true (first_fail p n) n (sym e ∙ t))

pub all_below-next : (p : ℕ → Bool) (n : ℕ) → all_below p (suc n) ≡ (all_below p n && p n)
all_below-next p n = go (ltb (first_fail p n) n) refl (p n) (first_fail-le p n)
  where
    go : (a : Bool) → ltb (first_fail p n) n ≡ a → (b : Bool) → first_fail p n ≤ n → eqb (cond a (first_fail p n) (cond b (suc n) n)) (suc n) ≡ (eqb (first_fail p n) n && b)
    go true e b h =
        let l = ltb-true (first_fail p n) n e in
        ne_eqb (first_fail p n) (suc n) (λ q. lt_irrefl n (omega arith)) ∙ ap (◌&& b) (sym (ne_eqb (first_fail p n) n (λ q. lt_irrefl n (omega arith))))
    go false e true h =
        let l = ltb-false (first_fail p n) n e in
        eq-eqb (suc n) (suc n) refl ∙ ap (◌&& true) (sym (eq-eqb (first_fail p n) n (omega arith)))
    go false e false h =
        let l = ltb-false (first_fail p n) n e in
        ne_eqb n (suc n) (λ q. lt_irrefl n (omega arith)) ∙ ap (◌&& false) (sym (eq-eqb (first_fail p n) n (omega arith)))

-- ── `between` as a program tests it ──

pub between-low : (a x b : ℕ) → x < a → between a x b ≡ false
between-low a x b h = ap (◌&& leb x b) (lt-leb a x h)

pub between-high : (a x b : ℕ) → b < x → between a x b ≡ false
between-high a x b h = ap (leb a x &&◌) (lt-leb x b h) ∙ go (leb a x)
  where
    go : (c : Bool) → (c && false) ≡ false
    go true = refl
    go false = refl

pub between_in : (a x b : ℕ) → a ≤ x → x ≤ b → between a x b ≡ true
between_in a x b p q = ap₂ ◌&&◌ (le-leb a x p) (le-leb x b q)

-- a loop's invariant "all before i pass" goes on by one
pub all_more : (p : ℕ → Bool) (i : ℕ) → ((j : ℕ) → j < i → p j ≡ true) → p i ≡ true → (j : ℕ) → j < i + 1 → p j ≡ true
all_more p i h e j l = go (ltb j i) refl
  where
    go : (b : Bool) → ltb j i ≡ b → p j ≡ true
    go true q = h j (ltb-true j i q)
    go false q = let k = ltb-false j i q in let same : j ≡ i = omega arith in rw same e
