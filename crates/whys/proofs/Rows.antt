-- What a row that can be read gives the formula: as many inputs as its kind takes, which have values. Assumes nothing.
use Prim.Native.Nat.{ℕ}
use mathlib.Core.Bool.{true}
use mathlib.Core.List.{List}
use mathlib.Core.Path.{◌≡◌, ap, ◌∙◌}
use borrow.Author.Tests.{ltb-true}
use lib.Dec.{ltb}
use lib.IntN.{ℤ}
use lib.ListN.{length}
use Rattle.paper.specs.Lists.{nat}
use Rattle.paper.specs.Checks.{arity}
use Rattle.paper.proofs.Lists.{all-at}
use Rattle.paper.proofs.Scan.{part_length}
use Rattle.formulas.specs.Inputs.{part_of, Within}
use Rattle.whys.specs.Rows.{RowReads}

module _ {r : ℕ} {kinds firsts counts vars : List ℕ} {values : List ℤ} (p : RowReads r kinds firsts counts vars values) where
  abbrev part : List ℕ
  part = part_of (nat firsts r) (nat counts r) vars

  pub reads-suits : arity (nat kinds r) (length part) ≡ true
  reads-suits = ap (arity (nat kinds r)) (part_length vars (nat firsts r) (nat counts r) p.in-vars) ∙ p.suits

  pub reads-within : Within part values
  reads-within = record { each = λ i h. ltb-true _ _ (all-at (λ u. ltb u (length values)) part p.below i 0 h) }
