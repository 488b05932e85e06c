-- The greater and the lesser of two numbers, as std's comparison of numbers tells them. Assumes nothing.
use native.Mathlib.Omega.{arith}
use Rattle.std.specs.Prelude.{ℕ, max, min, ◌≡◌}
use Rattle.std.specs.Ordering.{nat_cmp, ord_max, ord_min}
use Rattle.std.proofs.lemmas.Bool.Decides.{nat_tests}

pub max-is : (a b : ℕ) → ord_max nat_cmp a b ≡ max a b
max-is a b = grind (arith, nat_tests)

pub min-is : (a b : ℕ) → ord_min nat_cmp a b ≡ min a b
min-is a b = grind (arith, nat_tests)
