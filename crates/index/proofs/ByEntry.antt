-- A row written at its entries, and one row after another: the part of each stands after those before it. Assumes nothing.
use Prim.Native.Nat.{ℕ, ◌+◌, ◌≤◌, ◌<◌}
use native.Mathlib.Omega.{arith}
use mathlib.Core.Bool.{Bool, true, false}
use mathlib.Core.List.{List, ◌++◌}
use mathlib.Core.Path.{◌≡◌, refl, ap, ◌∙◌}
use lib.Dec.{ltb}
use lib.ListN.{length, take, drop, replicate}
use borrow.Author.Tests.{ltb-true, ltb-false}
use Rattle.std.proofs.lemmas.Grind.{common_steps}
use Rattle.paper.specs.Lists.{nat}
use Rattle.index.specs.Parts.{PartsApart, PutBetween, RowsAt}

-- a part of a row filled with x
pub put_filled : (x first count k : ℕ) (before filled : List ℕ) → first + count ≤ length before → k ≡ count → filled ≡ replicate (length (take k (drop first before))) x
    → PutBetween x first (first + count) before (take first before ++ (filled ++ drop k (drop first before)))
put_filled x first count k before filled h e f =
    let long : length (take k (drop first before)) ≡ count = grind (arith, common_steps) in
    rw (f, long, e) (record {
      long = grind (arith, common_steps);
      here = λ i a b. grind (arith, common_steps);
      below = λ i a. grind (arith, common_steps);
      beyond = λ i a. grind (arith, common_steps);
    })

pub rows_start : (firsts counts rows : List ℕ) → RowsAt 0 firsts counts rows
rows_start firsts counts rows = record { at = λ r i l a b. absurd (omega arith) }

pub rows_next : (m e : ℕ) (firsts counts : List ℕ) → PartsApart m e firsts counts → (r first count : ℕ) (before now : List ℕ) → r < m → RowsAt r firsts counts before
    → first ≡ nat firsts r → count ≡ nat counts r → PutBetween r first (first + count) before now → RowsAt (r + 1) firsts counts now
rows_next m e firsts counts A r first count before now l R f g p = record { at = λ q i k a b. go q i k a b (ltb q r) refl }
  where
    go : (q i : ℕ) → q < r + 1 → nat firsts q ≤ i → i < nat firsts q + nat counts q → (b : Bool) → ltb q r ≡ b → nat now i ≡ q
    go q i k a b true h = let s = ltb-true q r h in let o = A.after q r s l in p.below i (omega arith) ∙ R.at q i s a b
    go q i k a b false h =
        let s = ltb-false q r h in
        let z : r ≡ q = omega arith in
        let f' = f ∙ ap (nat firsts) z in
        let g' = g ∙ ap (nat counts) z in
        p.here i (omega arith) (omega arith) ∙ z

pub rows_end : (firsts counts rows : List ℕ) (r m : ℕ) → RowsAt r firsts counts rows → r ≡ m → RowsAt m firsts counts rows
rows_end firsts counts rows r m R e = rw (← e) R
