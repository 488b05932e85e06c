-- The rows kept are those that pass a test which looks at the rows kept before, so any of them can be packed: each is whole and good alone, no
-- two make one variable, and their entries are few. Assumes nothing.
use Prim.Native.Nat.{ℕ, zero, suc, ◌+◌, ◌≤◌, ◌<◌}
use native.Mathlib.Nat.{le_refl, not-suc-le-zero}
use native.Mathlib.Omega.{arith}
use mathlib.Core.Bool.{Bool, true, false, cond}
use mathlib.Core.List.{List, [], ◌∷◌, ◌++◌, map, append-nil}
use mathlib.Core.Path.{◌≡◌, refl, ap, sym, ◌∙◌}
use lib.Dec.{eqb, ltb}
use lib.ListN.{length, take, length-append, get_or-append}
use lib.Seq.{take-append-le, take-append_seam, get_or-append_seam}
use borrow.Author.Tests.{ltb-true, ltb-false, leb-true, eqb-true, not-true}
use Rattle.paper.specs.Lists.{any, total, nat, those}
use Rattle.paper.specs.Tables.{Tables}
use Rattle.paper.specs.Checks.{accepted, by_lines}
use Rattle.paper.specs.File.{version1, e_in, head_lines}
use Rattle.paper.proofs.Lists.{clash, and_left, each, any-has, any-in, eqb-self}
use Rattle.paper.proofs.Those.{those-in, those-has}
use Rattle.damage.specs.Saved.{given, can_keep, kept_rows}
use Rattle.damage.proofs.Packed.{Whole, Rows, good-alone}
use Rattle.damage.proofs.Given.{vars-long, coefs-long, variables}

-- ── those that pass a test ──
-- what stands at place k of a list passes, below m, and before it stand those below it that pass
pub record At (p : ℕ → Bool) (m : ℕ) (xs : List ℕ) (k : ℕ) : Type 0 where
  pub low : nat xs k < m
  pub passes : p (nat xs k) ≡ true
  pub before : take k xs ≡ those p (nat xs k)

module _ (p : ℕ → Bool) where
  at_more : (m k : ℕ) (xs : List ℕ) → xs ≡ those p m → p m ≡ true → k < length (xs ++ (m ∷ [])) → (k < length xs → At p m xs k) → At p (suc m) (xs ++ (m ∷ [])) k
  at_more m k xs e q h ih = go (ltb k (length xs)) refl
    where
      go : (b : Bool) → ltb k (length xs) ≡ b → At p (suc m) (xs ++ (m ∷ [])) k
      go true c =
          let l = ltb-true k (length xs) c in let a = ih l in let same = get_or-append xs (m ∷ []) 0 k l in
          record { low = let z = a.low in omega arith; passes = ap p same ∙ a.passes; before = take-append-le k xs (m ∷ []) (omega arith) ∙ a.before ∙ ap (those p) (sym same) }
      go false c =
          let l = ltb-false k (length xs) c in let long = length-append xs (m ∷ []) in
          let z : k ≡ length xs = omega arith in let same = ap (nat (xs ++ (m ∷ []))) z ∙ get_or-append_seam xs m [] 0 in
          record { low = omega arith; passes = ap p same ∙ q; before = ap (λ (i : ℕ). take i (xs ++ (m ∷ []))) z ∙ take-append_seam xs (m ∷ []) ∙ e ∙ ap (those p) (sym same) }

  pub those-at : (m k : ℕ) → k < length (those p m) → At p m (those p m) k
  those-at zero k l = absurd (not-suc-le-zero l)
  those-at (suc m) k l = go (p m) refl l (those-at m k)
    where
      go : (b : Bool) → p m ≡ b → k < length (those p m ++ cond b (m ∷ []) []) → (k < length (those p m) → At p m (those p m) k) → At p (suc m) (those p m ++ cond b (m ∷ []) []) k
      go true q h ih = at_more m k (those p m) refl q h ih
      go false q h ih =
          rw append-nil (let a = ih (rw append-nil at h) in record { low = let z = a.low in omega arith; passes = a.passes; before = a.before })

  -- a number is among them if it passes
  pub any-those : (m r : ℕ) → r < m → any (eqb r) (those p m) ≡ p r
  any-those m r l = go (any (eqb r) (those p m)) refl (p r) refl
    where
      go : (a : Bool) → any (eqb r) (those p m) ≡ a → (b : Bool) → p r ≡ b → a ≡ b
      go true e true q = refl
      go true e false q = let (i, n, h) = any-has (eqb r) (those p m) e in clash (ap p (eqb-true r i h) ∙ (those-in p m i n).1) q
      go false e true q = clash (any-in (eqb r) (those p m) (those-has p m r l q) (eqb-self r)) e
      go false e false q = refl

-- fewer pass: what none of the others is none of them is, and their sum is at most as much
none-less : (p q : ℕ → Bool) (m : ℕ) → ((r : ℕ) → r < m → p r ≡ true → q r ≡ true) → (test : ℕ → Bool) → any test (those q m) ≡ false → any test (those p m) ≡ false
none-less p q m less test none = go (any test (those p m)) refl
  where
    go : (b : Bool) → any test (those p m) ≡ b → any test (those p m) ≡ false
    go true e =
        let (i, n, h) = any-has test (those p m) e in let w = those-in p m i n in
        clash (any-in test (those q m) (those-has q m i w.0 (less i w.0 w.1)) h) none
    go false e = e

pub sum-append : (f : ℕ → ℕ) (xs ys : List ℕ) → total (map f (xs ++ ys)) ≡ total (map f xs) + total (map f ys)
sum-append f [] ys = omega arith
sum-append f (x ∷ xs) ys = let h = sum-append f xs ys in omega arith

sum_less : (p q : ℕ → Bool) (m : ℕ) → ((r : ℕ) → r < m → p r ≡ true → q r ≡ true) → (f : ℕ → ℕ) → total (map f (those p m)) ≤ total (map f (those q m))
sum_less p q zero less f = le_refl 0
sum_less p q (suc m) less f = go (p m) refl (q m) refl (sum_less p q m (λ r l. less r (omega arith)) f)
  where
    go : (a : Bool) → p m ≡ a → (b : Bool) → q m ≡ b → total (map f (those p m)) ≤ total (map f (those q m))
        → total (map f (those p m ++ cond a (m ∷ []) [])) ≤ total (map f (those q m ++ cond b (m ∷ []) []))
    go true e true h ih = omega (arith, sum-append f (those p m) (m ∷ []), sum-append f (those q m) (m ∷ []))
    go true e false h ih = clash (less m (le_refl (suc m)) e) h
    go false e true h ih = omega (arith, sum-append f (those p m) [], sum-append f (those q m) (m ∷ []))
    go false e false h ih = omega (arith, sum-append f (those p m) [], sum-append f (those q m) [])

-- ── the rows kept ──
module _ (bytes : List ℕ) where
  abbrev t : Tables
  t = given bytes

  -- the row is kept
  abbrev pub keeps : ℕ → Bool
  keeps r = can_keep bytes (kept_rows bytes r) r

  pub kept-those : (k : ℕ) → kept_rows bytes k ≡ those keeps k
  kept-those zero = refl
  kept-those (suc k) = ap (◌++ cond (keeps k) (k ∷ []) []) (kept-those k)

  kept-few : (k : ℕ) → total (map (nat t.counts) (kept_rows bytes k)) ≤ 16384
  kept-few zero = omega arith
  kept-few (suc k) = go (keeps k) refl (kept-few k)
    where
      go : (b : Bool) → keeps k ≡ b → total (map (nat t.counts) (kept_rows bytes k)) ≤ 16384
          → total (map (nat t.counts) (kept_rows bytes k ++ cond b (k ∷ []) [])) ≤ 16384
      go true e ih =
          let fits = leb-true (total (map (nat t.counts) (kept_rows bytes k)) + nat t.counts k) 16384 (each _ e).1.1.1.1.0 in
          omega (arith, sum-append (nat t.counts) (kept_rows bytes k) (k ∷ []))
      go false e ih = omega (arith, sum-append (nat t.counts) (kept_rows bytes k) [])

  pub kept_whole : (r : ℕ) → keeps r ≡ true → Whole t r
  kept_whole r e =
      let inside = leb-true (nat t.firsts r + nat t.counts r) (e_in bytes) (and_left _ _ (each _ e).1.0) in
      record { vars = rw (vars-long bytes) inside; coefs = rw (coefs-long bytes) inside }

  -- any of them can be packed
  pub rows-kept : by_lines (head_lines version1 bytes) accepted ≡ accepted → (p : ℕ → Bool) (m : ℕ) → ((r : ℕ) → r < m → p r ≡ true → keeps r ≡ true) → Rows t (those p m)
  rows-kept h p m less = record {
    n-some = (variables bytes h).some;
    n-most = (variables bytes h).most;
    whole = λ k l. kept_whole (nat (those p m) k) (kept k l);
    good = λ k l. good-alone t (nat (those p m) k) (kept_whole (nat (those p m) k) (kept k l)) (each _ (kept k l)).1.1.0;
    once = λ k l. let r = nat (those p m) k in let a = those-at p m k l in
        ap (any (λ q. eqb (nat t.makes q) (nat t.makes r))) a.before
        ∙ none-less p keeps r (λ q j. less q (let z = a.low in omega arith)) (λ q. eqb (nat t.makes q) (nat t.makes r))
        (ap (any (λ q. eqb (nat t.makes q) (nat t.makes r))) (sym (kept-those r)) ∙ not-true _ (each _ (kept k l)).1.1.1.0);
    few = let a = sum_less p keeps m less (nat t.counts) in let b = kept-few m in let c = ap (λ rows. total (map (nat t.counts) rows)) (kept-those m) in omega arith;
  }
    where
      kept : (k : ℕ) → k < length (those p m) → keeps (nat (those p m) k) ≡ true
      kept k l = let a = those-at p m k l in less (nat (those p m) k) a.low a.passes
