-- What checks 2 and 3 say of a row, as its formula needs it. Assumes nothing.
use Prim.Native.Nat.{ℕ, ◌<◌, ◌≤◌}
use native.Mathlib.Omega.{arith}
use mathlib.Core.Bool.{Bool, true, false, cond, not, ◌&&◌, ◌||◌}
use mathlib.Core.List.{List}
use mathlib.Core.Path.{◌≡◌, sym, ap, ◌∙◌}
use borrow.Author.Tests.{leb-true, ltb-true, eqb-true}
use lib.Dec.{eqb, ltb, leb}
use lib.IntN.{ℤ}
use lib.ListN.{length}
use Rattle.paper.specs.Lists.{between}
use Rattle.paper.specs.Checks.{arity}
use Rattle.paper.proofs.Lists.{and_left, and_right, all-at}
use Rattle.paper.proofs.Scan.{part_length}
use Rattle.formulas.specs.Inputs.{part_of, Within}
use Rattle.formulas.specs.Row.{Row, PartFits}

-- ── how many inputs ──
module _ (kind n : ℕ) (suits : arity kind n ≡ true) where
  bounds : between (cond (eqb kind 4) 2 1) n 256 ≡ true
  bounds = and_left (between (cond (eqb kind 4) 2 1) n 256) (not (eqb kind 7) || eqb n 2) (and_left _ (not (eqb kind 8 || eqb kind 9) || eqb n 3) suits)

  pub some-inputs : 0 < n
  some-inputs = go (eqb kind 4) (leb-true _ n (and_left (leb (cond (eqb kind 4) 2 1) n) (leb n 256) bounds))
    where
      go : (b : Bool) → cond b 2 1 ≤ n → 0 < n
      go true h = omega arith
      go false h = omega arith

  pub few-inputs : n ≤ 256
  few-inputs = leb-true n 256 (and_right (leb (cond (eqb kind 4) 2 1) n) (leb n 256) bounds)

pub two-inputs : (n : ℕ) → arity 7 n ≡ true → n ≡ 2
two-inputs n suits = eqb-true n 2 (and_right (between 1 n 256) (eqb n 2) (and_left (between 1 n 256 && eqb n 2) true suits))

pub three-inputs : (kind n : ℕ) → (eqb kind 8 || eqb kind 9) ≡ true → arity kind n ≡ true → n ≡ 3
three-inputs kind n k suits =
    let both = between (cond (eqb kind 4) 2 1) n 256 && (not (eqb kind 7) || eqb n 2) in
    let last : (not (eqb kind 8 || eqb kind 9) || eqb n 3) ≡ true = and_right both (not (eqb kind 8 || eqb kind 9) || eqb n 3) suits in
    eqb-true n 3 (rw k at last)

-- ── a row's part ──
module _ {kind first count : ℕ} {coefs : List ℤ} {vars : List ℕ} {values : List ℤ} (p : PartFits kind first count coefs vars values) where
  pub part-row : Row kind (part_of first count coefs) (part_of first count vars)
  part-row =
      let v = part_length vars first count p.in-vars in
      record { same = part_length coefs first count p.in-coefs ∙ sym v; suits = ap (arity kind) v ∙ p.suits }

  pub part-within : Within (part_of first count vars) values
  part-within = record { each = λ i h. ltb-true _ _ (all-at (λ u. ltb u (length values)) (part_of first count vars) p.below i 0 h) }
