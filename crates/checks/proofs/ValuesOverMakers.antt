-- The tests of values over the row of makers are the paper's over the tables. Assumes nothing.
use Prim.Native.Nat.{ℕ, ◌<◌}
use native.Mathlib.Omega.{arith}
use mathlib.Core.Bool.{Bool, true, false, cond, not, and-true}
use mathlib.Core.List.{List}
use mathlib.Core.Path.{◌≡◌, refl, ap, ap₂, sym, ◌∙◌}
use lib.IntN.{ℤ, pos}
use lib.Dec.{eqb}
use lib.ListN.{get_or}
use lib.Seq.{get_or-take}
use Rattle.paper.specs.Lists.{nat, first_fail, all_below}
use Rattle.paper.specs.Tables.{Tables, is_made, values_in}
use Rattle.paper.specs.Checks.{Bounds, low, high, start_allowed, stored_allowed}
use Rattle.paper.specs.Formula.{blank}
use Rattle.paper.specs.Calls.{blanks_among}
use Rattle.paper.proofs.Count.{size_same}
use Rattle.paper.proofs.Scan.{first_fail-same}
use Rattle.std.specs.Prelude.{None}
use Rattle.integers.specs.Integers.{eq_z}
use Rattle.integers.specs.Below.{if_below}
use Rattle.tables.specs.Makers.{Makers}
use Rattle.tables.proofs.Made.{maker-zero}
use Rattle.tables.proofs.Whole.{all-none}
use Rattle.checks.specs.Allowed.{value_good}

-- 19: the values in a lent row
pub blanks-same : (t : Tables) (values : List ℤ) → blanks_among t.n (λ v. get_or values v (pos 0)) ≡ blanks_among t.n (values_in t values)
blanks-same t values = size_same _ _ t.n (λ v l. ap (λ z. eq_z z blank) (sym (get_or-take t.n values v (pos 0) l)))

module _ (t : Tables) (by : List ℕ) (k : Makers t by) where
  -- 7
  pub value_same : (building : Bool) (bs : Bounds) (values : List ℤ) (v : ℕ) → v < t.n
      → value_good building (not (eqb (nat by v) 0)) (low bs v) (get_or values v (pos 0)) (high bs v) ≡ cond building (start_allowed t) (stored_allowed t) bs (values_in t values) v
  value_same building bs values v l =
      ap₂ (λ b z. value_good building (not b) (low bs v) z (high bs v)) (maker-zero t by k v l) (sym (get_or-take t.n values v (pos 0) l)) ∙ go building (is_made t v) refl
    where
      go : (b made : Bool) → is_made t v ≡ made
          → value_good b (not (not (is_made t v))) (low bs v) (values_in t values v) (high bs v) ≡ cond b (start_allowed t) (stored_allowed t) bs (values_in t values) v
      go true true e = rw e (sym (and-true _))
      go true false e = rw e refl
      go false true e = rw e refl
      go false false e = rw e refl

  -- 7 of all: where each passes over the row of makers there is none to find
  pub values-none : (n : ℕ) → t.n ≡ n → (building : Bool) (bs : Bounds) (values : List ℤ) (b : Bool)
      → b ≡ all_below (λ v. value_good building (not (eqb (nat by v) 0)) (low bs v) (get_or values v (pos 0)) (high bs v)) n → b ≡ true
      → None ≡ if_below n (first_fail (cond building (start_allowed t) (stored_allowed t) bs (values_in t values)) n)
  values-none n e building bs values b h p = all-none _ n (sym h ∙ p) ∙ ap (if_below n) (first_fail-same _ _ n (λ v l. value_same building bs values v (omega arith)))
