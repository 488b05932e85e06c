-- Where each number stands among those that pass a test, and each list among lists one after another. Assumes nothing.
use Prim.Native.Nat.{ℕ, zero, suc, ◌+◌, ◌-◌, ◌≤◌, ◌<◌}
use native.Mathlib.Nat.{le_refl, not-suc-le-zero}
use native.Mathlib.Omega.{arith}
use mathlib.Core.Bool.{Bool, true, false, cond}
use mathlib.Core.List.{List, [], ◌∷◌, ◌++◌, append_assoc, append-nil}
use mathlib.Core.Path.{◌≡◌, refl, ap, sym, ◌∙◌}
use lib.Dec.{leb, ltb}
use lib.ListN.{length, length-append, get_or-append}
use lib.Seq.{get_or-append-add, get_or-append_seam}
use borrow.Author.Tests.{leb-true, leb-false, ltb-true, ltb-false}
use Rattle.paper.specs.Lists.{nat, those, joined}
use Rattle.paper.proofs.Those.{joined-grown, joined-le}

-- ── those that pass ──
module _ (p : ℕ → Bool) where
  -- a lower bound gives the front
  those-front : (k n : ℕ) → k ≤ n → (rest : List ℕ) × (those p n ≡ those p k ++ rest)
  those-front k zero h = let z : k ≡ 0 = omega arith in rw z ([], refl)
  those-front k (suc n) h = go (leb k n) refl (those-front k n)
    where
      go : (b : Bool) → leb k n ≡ b → (k ≤ n → (rest : List ℕ) × (those p n ≡ those p k ++ rest)) → (rest : List ℕ) × (those p (suc n) ≡ those p k ++ rest)
      go true e ih =
          let (rest, q) = ih (leb-true k n e) in let last = cond (p n) (n ∷ []) [] in
          (rest ++ last, ap (◌++ last) q ∙ append_assoc (those p k) rest last)
      go false e ih = let l = leb-false k n e in let z : k ≡ suc n = omega arith in rw z ([], sym (append-nil (those p (suc n))))

  -- a number that passes stands behind those below it
  pub those-place : (k n : ℕ) → k < n → p k ≡ true → (length (those p k) < length (those p n)) × (nat (those p n) (length (those p k)) ≡ k)
  those-place k n l e =
      let (rest, q) = those-front (suc k) n l in
      let all : those p n ≡ those p k ++ (k ∷ rest) = q ∙ ap (λ b. (those p k ++ cond b (k ∷ []) []) ++ rest) e ∙ append_assoc (those p k) (k ∷ []) rest in
      let long = ap length all ∙ length-append (those p k) (k ∷ rest) in
      (omega arith, ap (λ (m : List ℕ). nat m (length (those p k))) all ∙ get_or-append_seam (those p k) k rest 0)

-- ── lists one after another ──
module _ (f : ℕ → List ℕ) where
  -- what stands in the section of v
  pub section-at : (n v j : ℕ) → v < n → j < length (f v) → nat (joined f n) (length (joined f v) + j) ≡ nat (f v) j
  section-at zero v j l h = absurd (not-suc-le-zero l)
  section-at (suc n) v j l h = go (ltb v n) refl (section-at n v j)
    where
      go : (b : Bool) → ltb v n ≡ b → (v < n → j < length (f v) → nat (joined f n) (length (joined f v) + j) ≡ nat (f v) j)
          → nat (joined f n ++ f n) (length (joined f v) + j) ≡ nat (f v) j
      go true e ih =
          let k = ltb-true v n e in let s = joined-grown f v in let r = joined-le f (suc v) n k in
          get_or-append (joined f n) (f n) 0 (length (joined f v) + j) (omega arith) ∙ ih k h
      go false e ih =
          let k = ltb-false v n e in let z : v ≡ n = omega arith in
          rw z (get_or-append-add (joined f n) (f n) j 0)

  -- every place is in a section
  pub section-of : (n i : ℕ) → i < length (joined f n) → (v : ℕ) × (v < n) × (j : ℕ) × (j < length (f v)) × (i ≡ length (joined f v) + j)
  section-of zero i l = absurd (not-suc-le-zero l)
  section-of (suc n) i l = go (ltb i (length (joined f n))) refl (section-of n i)
    where
      go : (b : Bool) → ltb i (length (joined f n)) ≡ b
          → (i < length (joined f n) → (v : ℕ) × (v < n) × (j : ℕ) × (j < length (f v)) × (i ≡ length (joined f v) + j))
          → (v : ℕ) × (v < suc n) × (j : ℕ) × (j < length (f v)) × (i ≡ length (joined f v) + j)
      go true e ih = let (v, k, j, h, q) = ih (ltb-true i (length (joined f n)) e) in (v, omega arith, j, h, q)
      go false e ih =
          let k = ltb-false i (length (joined f n)) e in let s = joined-grown f n in
          (n, le_refl (suc n), i - length (joined f n), omega arith, omega arith)
