-- All rows and all entries at once: parts that each begin where the one before ends begin where those before them end, and where nothing is wrong with
-- all together nothing is with any. Assumes nothing.
use Prim.Native.Nat.{ℕ, zero, suc, ◌+◌, ◌≤◌, ◌<◌}
use native.Mathlib.Nat.{le_refl, not-suc-le-zero}
use native.Mathlib.Omega.{arith}
use mathlib.Core.Bool.{Bool, true, false, ◌&&◌}
use mathlib.Core.List.{List, [], ◌∷◌}
use mathlib.Core.Path.{◌≡◌, refl, sym, ap, ap₂, ◌∙◌}
use lib.Dec.{eqb, leb, ltb}
use lib.ListN.{length, take}
use borrow.Author.Tests.{leb-true, eqb-true, eq-eqb, le-leb}
use Rattle.std.specs.Prelude.{None}
use Rattle.integers.specs.Below.{if_below}
use Rattle.paper.specs.Lists.{all, greatest, total, nat, first_fail, all_below}
use Rattle.paper.specs.Tables.{Tables}
use Rattle.paper.specs.Checks.{arity, shape_good}
use Rattle.paper.proofs.Lists.{and_left, and_right}
use Rattle.paper.proofs.Least.{all_below-at}
use Rattle.paper.proofs.Scan.{scan-none, total-next}
use Rattle.tables.specs.Rows.{parts_good}
use Rattle.tables.proofs.Cut.{cut}
use Rattle.tables.proofs.Whole.{below_next}
use Rattle.tables.proofs.Shapes.{rows-known, inputs-known, placed-shape}

-- ── the parts ──
-- what the loop over the parts has come to: `before` is where the last part ends, which tells the sum if all are good so far
pub record Placing (m : ℕ) (firsts counts : List ℕ) (row : ℕ) (good : Bool) (before : ℕ) : Type 0 where
  pub low : row ≤ m
  pub so : good ≡ all_below (λ r. eqb (nat firsts r) (total (take r counts))) row
  pub sum : good ≡ true → before ≡ total (take row counts)

module _ (m : ℕ) (firsts counts : List ℕ) where
  pub placing-start : Placing m firsts counts 0 true 0
  placing-start = record { low = omega arith; so = refl; sum = λ e. refl }

  module _ (row before : ℕ) (good : Bool) (P : Placing m firsts counts row good before) where
    pub placing-next : row < m → m ≤ length counts → Placing m firsts counts (row + 1) (good && eqb (nat firsts row) before) (nat firsts row + nat counts row)
    placing-next l long = record {
      low = omega arith;
      so = same good P.sum ∙ below_next (λ r. eqb (nat firsts r) (total (take r counts))) row good P.so;
      sum = λ e.
          let at = eqb-true (nat firsts row) before (and_right good (eqb (nat firsts row) before) e) in
          let s = P.sum (and_left good (eqb (nat firsts row) before) e) in
          omega (arith, total-next counts row (omega arith));
    }
      where
        same : (g : Bool) → (g ≡ true → before ≡ total (take row counts)) → (g && eqb (nat firsts row) before) ≡ (g && eqb (nat firsts row) (total (take row counts)))
        same true s = ap (eqb (nat firsts row)) (s refl)
        same false s = refl

    pub placing-end : (e : ℕ) → m ≤ row → (good && leb before e) ≡ parts_good m e firsts counts
    placing-end e h =
        let low = P.low in let all : row ≡ m = omega arith in
        same good P.sum ∙ ap₂ (λ g k. g && leb (total (take k counts)) e) P.so all
        ∙ ap (λ k. all_below (λ r. eqb (nat firsts r) (total (take r counts))) k && leb (total (take m counts)) e) all
      where
        same : (g : Bool) → (g ≡ true → before ≡ total (take row counts)) → (g && leb before e) ≡ (g && leb (total (take row counts)) e)
        same true s = ap (λ x. leb x e) (s refl)
        same false s = refl

-- ── each row ──
-- fewer counts come to no more
total-grows : (l : List ℕ) (i j : ℕ) → i ≤ j → total (take i l) ≤ total (take j l)
total-grows l zero j h = omega arith
total-grows [] (suc i) j h = omega arith
total-grows (x ∷ xs) (suc i) zero h = absurd (not-suc-le-zero h)
total-grows (x ∷ xs) (suc i) (suc j) h = let k = total-grows xs i j (omega arith) in omega arith

-- parts that are good begin where those before them end, and these end within e
module _ (m e : ℕ) (firsts counts : List ℕ) (parts : parts_good m e firsts counts ≡ true) (r : ℕ) where
  abbrev begins : Bool
  begins = all_below (λ i. eqb (nat firsts i) (total (take i counts))) m

  pub part-begins : r < m → nat firsts r ≡ total (take r counts)
  part-begins l =
      eqb-true (nat firsts r) (total (take r counts))
      (all_below-at (λ i. eqb (nat firsts i) (total (take i counts))) m (and_left begins (leb (total (take m counts)) e) parts) r l)

  pub sum-within : r ≤ m → total (take r counts) ≤ e
  sum-within l =
      let z = total-grows counts r m l in let w = leb-true (total (take m counts)) e (and_right begins (leb (total (take m counts)) e) parts) in omega arith

module _ (t : Tables) (long : t.m ≤ length t.makes) (room : t.m ≤ length t.counts) where
  pub all-shapes : {a b c d : Bool} → a ≡ ltb (greatest (take t.m t.makes)) t.n → b ≡ all_below (λ i. arity (nat t.kinds i) (nat t.counts i)) t.m
      → c ≡ ltb (greatest (take t.e t.vars)) t.n → d ≡ parts_good t.m t.e t.firsts t.counts → ((a && b) && (c && d)) ≡ true
      → None ≡ if_below t.m (first_fail (shape_good t) t.m)
  all-shapes {a} {b} {c} {d} pa pb pc pd q = scan-none (shape_good t) t.m t.m (record { low = le_refl t.m; good = row }) (le_refl t.m)
    where
      known : (c && d) ≡ true
      known = and_right (a && b) (c && d) q

      parts : parts_good t.m t.e t.firsts t.counts ≡ true
      parts = sym pd ∙ and_right c d known

      row : (r : ℕ) → r < t.m → shape_good t r ≡ true
      row r l = sym (placed-shape t r true (nat t.firsts r) (nat t.counts r) (total (take r t.counts)) (sym own) refl refl refl) ∙ ap₂ ◌&&◌ (ap₂ ◌&&◌ at ends) inputs
        where
          own : (ltb (nat t.makes r) t.n && arity (nat t.kinds r) (nat t.counts r)) ≡ true
          own = rows-known t.n t.m r t.kinds t.makes t.counts long l (sym pa ∙ and_left a b (and_left (a && b) (c && d) q)) (sym pb ∙ and_right a b (and_left (a && b) (c && d) q))

          at : eqb (nat t.firsts r) (total (take r t.counts)) ≡ true
          at = eq-eqb (nat t.firsts r) (total (take r t.counts)) (part-begins t.m t.e t.firsts t.counts parts r l)

          inside : nat t.firsts r + nat t.counts r ≤ t.e
          inside =
              let x = part-begins t.m t.e t.firsts t.counts parts r l in let y = total-next t.counts r (omega arith) in
              let z = sum-within t.m t.e t.firsts t.counts parts (r + 1) (omega arith) in omega arith

          ends : leb (nat t.firsts r + nat t.counts r) t.e ≡ true
          ends = le-leb (nat t.firsts r + nat t.counts r) t.e inside

          inputs : all (λ v. ltb v t.n) (cut (nat t.firsts r) (nat t.counts r) t.vars) ≡ true
          inputs = inputs-known t.n t.e (nat t.firsts r) (nat t.counts r) t.vars inside (sym pc ∙ and_left c d known)
