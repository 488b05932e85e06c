-- Numbers and order where no chain of inputs closes: what code counts by that need not look for groups. No statement of a public call uses this page; that these are
-- build's numbers and order there is proved (`proofs/Closes`). Assumes nothing.
use Prim.Native.Nat.{ℕ, zero, suc}
use mathlib.Core.Bool.{Bool, cond}
use mathlib.Core.List.{List, [], ◌∷◌, map}
use lib.Dec.{eqb}
use Rattle.paper.specs.Lists.{every, greatest, nat, all_below}
use Rattle.paper.specs.Net.{Net, Rule, runs}
use Rattle.paper.specs.Tables.{Tables, net, ends, levels}

module _ (N : Net) where
  -- 0 at search variables, 1 plus the greatest of the inputs' at made ones
  abbrev pub numbering : Rule ℕ
  numbering f v = cond (N.made v) (suc (greatest (map f (N.ins v)))) zero

  abbrev pub number : ℕ → ℕ → ℕ
  number = runs numbering (λ v. zero)

module _ (t : Tables) where
  -- the rows by the number of the variable made, ties by row number
  abbrev pub order : List ℕ
  order = levels t (number (net t) t.n) (suc t.n)

  -- each chain ends, and the lent numbers and order are these
  abbrev pub numbered : List ℕ → List ℕ → Bool
  numbered nums ord =
      every (
      all_below (ends t) t.n ∷ all_below (λ v. eqb (nat nums v) (number (net t) t.n v)) t.n
      ∷ all_below (λ i. eqb (nat ord i) (nat order i)) t.m ∷ [])
