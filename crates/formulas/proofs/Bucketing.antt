-- Values counted by their buckets: equal ones fall into one, so a value that is alone in its bucket stands once. Assumes nothing.
use Prim.Native.Nat.{ℕ, ◌+◌, ◌≤◌, ◌<◌}
use native.Mathlib.Omega.{arith}
use mathlib.Core.Bool.{Bool, true, false, cond}
use mathlib.Core.List.{List, [], ◌∷◌}
use mathlib.Core.Path.{◌≡◌, refl, ap, sym, ◌∙◌, subst}
use borrow.Author.Tests.{eqb-true, eqb-false, eq-eqb, ne_eqb, lt-leb}
use lib.Dec.{eqb, leb}
use lib.IntN.{ℤ, pos}
use lib.ListN.{length, get_or, set, replicate, length-set, length-replicate, get_or-replicate}
use lib.Seq.{get_or-set_same, get_or-set_other}
use Rattle.integers.specs.Integers.{eq_z}
use Rattle.integers.proofs.Order.{eq_z-yes}
use Rattle.paper.specs.Lists.{nat, tally}
use Rattle.paper.specs.Formula.{places}
use Rattle.formulas.specs.Buckets.{bucket_of, Bucketed}
use Rattle.formulas.proofs.Counting.{Passed, passed_none, passed-one, passed_over, passed-all, passed-most}

-- ── the places before i are counted ──
pub record Counting (xs : List ℤ) (counts : List ℕ) (i : ℕ) : Type 0 where
  pub long : length counts ≡ 2048
  pub at : (k : ℕ) → k < 2048 → Passed (λ x. eqb (bucket_of x) k) xs i (nat counts k)

pub counting-none : {xs : List ℤ} {counts : List ℕ} → Bucketed [] counts → Counting xs counts 0
counting-none {xs} {counts} b = record { long = b.long; at = λ k h. subst (λ n. Passed (λ x. eqb (bucket_of x) k) xs 0 n) (sym (b.at k h)) passed_none }

pub counting-next : {xs : List ℤ} {counts : List ℕ} {i k : ℕ} → Counting xs counts i → i < length xs → k ≡ bucket_of (get_or xs i (pos 0)) → k < 2048
    → Counting xs (set counts k (nat counts k + 1)) (i + 1)
counting-next {xs} {counts} {i} {k} s h e low = record { long = length-set counts k (nat counts k + 1) ∙ s.long; at = λ j l. go j l (eqb j k) refl }
  where
    go : (j : ℕ) → j < 2048 → (t : Bool) → eqb j k ≡ t → Passed (λ y. eqb (bucket_of y) j) xs (i + 1) (nat (set counts k (nat counts k + 1)) j)
    go j l true q =
        let here = eqb-true j k q in let long = s.long in
        subst (Passed (λ y. eqb (bucket_of y) j) xs (i + 1)) (ap (λ u. nat counts u + 1) here ∙ sym (get_or-set_same counts k (nat counts k + 1) 0 (omega arith)) ∙ ap (nat (set counts k (nat counts k + 1))) (sym here))
        (passed-one (pos 0) (s.at j l) h (eq-eqb _ j (sym e ∙ sym here)))
    go j l false q =
        let other = eqb-false j k q in
        subst (Passed (λ y. eqb (bucket_of y) j) xs (i + 1)) (sym (get_or-set_other counts k j (nat counts k + 1) 0 other)) (passed_over (pos 0) (s.at j l) h (ne_eqb _ j (λ z. other (sym (e ∙ z)))))

pub counting-all : {xs : List ℤ} {counts : List ℕ} {i : ℕ} → Counting xs counts i → length xs ≤ i → Bucketed xs counts
counting-all s h = record { long = s.long; at = λ k l. passed-all (s.at k l) h }

-- no bucket has more than all
pub counting-most : {xs : List ℤ} {counts : List ℕ} {i : ℕ} → Counting xs counts i → (k : ℕ) → k < 2048 → nat counts k ≤ length xs
counting-most s k l = passed-most (s.at k l)

-- ── before any is counted ──
pub counted_none : Bucketed [] (replicate 2048 0)
counted_none = record { long = length-replicate {A = ℕ} 2048 0; at = λ k l. get_or-replicate {A = ℕ} 2048 k 0 0 l }

-- ── a value alone in its bucket ──
together : (z : ℤ) (xs : List ℤ) → places z xs ≤ tally (λ x. eqb (bucket_of x) (bucket_of z)) xs
together z [] = omega arith
together z (x ∷ xs) = go (eq_z x z) refl (together z xs)
  where
    go : (t : Bool) → eq_z x z ≡ t → places z xs ≤ tally (λ y. eqb (bucket_of y) (bucket_of z)) xs
        → cond t 1 0 + places z xs ≤ cond (eqb (bucket_of x) (bucket_of z)) 1 0 + tally (λ y. eqb (bucket_of y) (bucket_of z)) xs
    go true e ih = rw (eq-eqb (bucket_of x) (bucket_of z) (ap bucket_of (eq_z-yes x z e))) (omega arith)
    go false e ih = omega arith

pub alone : {xs : List ℤ} {counts : List ℕ} {k : ℕ} → Bucketed xs counts → (z : ℤ) → k ≡ bucket_of z → k < 2048 → nat counts k < 2 → leb 2 (places z xs) ≡ false
alone {xs} {counts} {k} b z e low few = lt-leb 2 (places z xs) (omega (arith, together z xs, b.at k low ∙ ap (λ j. tally (λ x. eqb (bucket_of x) j) xs) e))
