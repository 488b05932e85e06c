-- What fits: from the test to each of its facts, and to the call's equation. Assumes nothing.
use Prim.Native.Nat.{ℕ, ◌+◌, ◌≤◌}
use mathlib.Core.Bool.{Bool, true, false, cond, ◌&&◌}
use mathlib.Core.List.{List}
use mathlib.Core.Path.{◌≡◌, sym, ap, ap₂, ◌∙◌}
use lib.Dec.{leb}
use lib.ListN.{length}
use borrow.Author.Tests.{leb-true}
use Rattle.paper.specs.Lists.{nat, over}
use Rattle.paper.proofs.Lists.{and_left, and_right}
use Rattle.figures.specs.Adding.{plus}
use Rattle.figures.specs.declared.Totals.{Totals}
use Rattle.std.specs.Prelude.{Ok, Err}
use Rattle.tables.specs.Answers.{refusal}
use Rattle.merging.specs.Merge.{counts_fit, half_fits, totals_fit, tallies_fit, merge_fits, merge}

pub record TotalsKnown (a b : Totals) : Type 0 where
  pub blank : a.blank + b.blank ≤ 4294967295
  pub sums : (half_fits a.sum && half_fits b.sum) ≡ true
  pub first : a.first + b.first ≤ 4294967295
  pub second : a.second + b.second ≤ 4294967295
  pub third : a.third + b.third ≤ 4294967295

pub totals-known : (a b : Totals) → totals_fit a b ≡ true → TotalsKnown a b
totals-known a b h =
    let c = counts_fit a.blank b.blank in let x = half_fits a.sum in let y = half_fits b.sum in
    let f = counts_fit a.first b.first in let s = counts_fit a.second b.second in let t = counts_fit a.third b.third in
    let five = and_left ((((c && x) && y) && f) && s) t h in let four = and_left (((c && x) && y) && f) s five in
    let three = and_left ((c && x) && y) f four in let two = and_left (c && x) y three in
    record {
      blank = leb-true _ _ (and_left c x two);
      sums = ap₂ ◌&&◌ (and_right c x two) (and_right (c && x) y three);
      first = leb-true _ _ (and_right ((c && x) && y) f four);
      second = leb-true _ _ (and_right (((c && x) && y) && f) s five);
      third = leb-true _ _ (and_right ((((c && x) && y) && f) && s) t h);
    }

module _ (a b : Totals) (xs ys row : List ℕ) where
  abbrev roomy : Bool → Bool
  roomy t = ((t && leb 22 (length xs)) && leb 22 (length ys)) && leb 22 (length row)

  pub record RowsKnown : Type 0 where
    pub totals-fit : totals_fit a b ≡ true
    pub in-first : 22 ≤ length xs
    pub in-second : 22 ≤ length ys
    pub in_row : 22 ≤ length row

  pub rows-known : roomy (totals_fit a b) ≡ true → RowsKnown
  rows-known h =
      let t = totals_fit a b in let x = leb 22 (length xs) in let y = leb 22 (length ys) in let z = leb 22 (length row) in
      let three = and_left ((t && x) && y) z h in let two = and_left (t && x) y three in
      record { totals-fit = and_left t x two; in-first = leb-true _ _ (and_right t x two); in-second = leb-true _ _ (and_right (t && x) y three); in_row = leb-true _ _ (and_right ((t && x) && y) z h) }

  -- the test as it is made
  pub merge-short : (t : Bool) → t ≡ totals_fit a b → roomy t ≡ false → false ≡ merge_fits a b xs ys row
  merge-short t e h = sym (ap (◌&& tallies_fit xs ys) (ap roomy (sym e) ∙ h))

  pub merge-rest : (t : Bool) → t ≡ totals_fit a b → roomy t ≡ true → (r : Bool) → r ≡ tallies_fit xs ys → r ≡ merge_fits a b xs ys row
  merge-rest t e h r is = is ∙ sym (ap (◌&& tallies_fit xs ys) (ap roomy (sym e) ∙ h))

  -- the call
  module _ (h : merge_fits a b xs ys row ≡ true) where
    pub merge-roomy : RowsKnown
    merge-roomy = rows-known (and_left (roomy (totals_fit a b)) (tallies_fit xs ys) h)

    pub merge-tallies : tallies_fit xs ys ≡ true
    merge-tallies = and_right (roomy (totals_fit a b)) (tallies_fit xs ys) h

    pub merge-accepted : (t : Totals) (left : List ℕ) → t ≡ plus a b → left ≡ over 22 (λ k. nat xs k + nat ys k) row → (Ok t, left) ≡ merge a b xs ys row
    merge-accepted t left p q =
        ap₂ (λ u l. (Ok u, l)) p q ∙ ap (λ u. cond u (Ok (plus a b), over 22 (λ k. nat xs k + nat ys k) row) (Err (refusal 1 0), row)) (sym h)

  pub merge-refused : merge_fits a b xs ys row ≡ false → (Err (refusal 1 0), row) ≡ merge a b xs ys row
  merge-refused h = ap (λ u. cond u (Ok (plus a b), over 22 (λ k. nat xs k + nat ys k) row) (Err (refusal 1 0), row)) (sym h)
