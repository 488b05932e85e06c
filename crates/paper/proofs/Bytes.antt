-- What is stored one behind the other: two runs of stores, the second where the first ends, are one run. Assumes nothing.
use Prim.Native.Nat.{ℕ, zero, suc, ◌+◌, ◌*◌, ◌≤◌}
use native.Mathlib.Omega.{arith}
use native.Mathlib.Nat.{mul-suc}
use native.Mathlib.Numerals.{add-one}
use mathlib.Core.List.{List, [], ◌∷◌, ◌++◌}
use mathlib.Core.Path.{◌≡◌, ap, ap₂, sym, ◌∙◌}
use lib.ListN.{length, drop, set, length-append}
use lib.Seq.{sets, sets-eq}
use Rattle.paper.specs.Lists.{joined}

pub sets_then : {A : Type 0} (xs ys l : List A) (at k : ℕ) → k ≡ at + length xs → sets (sets l at xs) k ys ≡ sets l at (xs ++ ys)
sets_then [] ys l at k e = let h : k ≡ at = omega arith in rw h
sets_then (x ∷ xs) ys l at k e = sets_then xs ys (set l at x) (suc at) k (omega arith)

-- a call that stores xs, and one that stores ys behind them
pub go_on : {A : Type 0} (l : List A) (at : ℕ) (xs ys : List A) (k : ℕ) {l₁ l₂ : List A} → l₁ ≡ sets l at xs → k ≡ at + length xs → l₂ ≡ sets l₁ k ys → l₂ ≡ sets l at (xs ++ ys)
go_on l at xs ys k p e q = q ∙ ap (λ z. sets z k ys) p ∙ sets_then xs ys l at k e

-- a run from the front on
pub sets-front : {A : Type 0} (xs l : List A) (n : ℕ) → length xs ≡ n → n ≤ length l → sets l 0 xs ≡ xs ++ drop n l
sets-front xs l n e h = let z : 0 + length xs ≡ n = omega arith in sets-eq xs l 0 (omega arith) ∙ ap (λ k. xs ++ drop k l) z

-- ── parts of w bytes each ──
module _ (f : ℕ → List ℕ) (w : ℕ) (same : (i : ℕ) → length (f i) ≡ w) where
  pub length-joined : (n : ℕ) → length (joined f n) ≡ w * n
  length-joined zero = omega arith
  length-joined (suc n) = length-append (joined f n) (f n) ∙ ap₂ ◌+◌ (length-joined n) (same n) ∙ sym (mul-suc w n)

  -- one turn of a loop that stores f i behind those before it
  pub turn : (l : List ℕ) (at i : ℕ) {l₁ l₂ xs : List ℕ} → l₁ ≡ sets l at (joined f i) → xs ≡ f i → l₂ ≡ sets l₁ (at + w * i) xs → l₂ ≡ sets l at (joined f (i + 1))
  turn l at i p x q =
      rw (add-one i) (go_on l at (joined f i) (f i) (at + w * i) p (ap (at +◌) (sym (length-joined i))) (q ∙ ap (sets _ (at + w * i)) x))
