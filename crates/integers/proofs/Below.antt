-- A number that stands for a place if it lies below a bound: when there is a place, and what its absence shows. Assumes nothing.
use native.Mathlib.Omega.{arith}
use Rattle.std.specs.Prelude.{ℕ, ◌<◌, ◌≤◌, ◌≡◌, Some, None}
use Rattle.std.proofs.lemmas.Bool.Decides.{nat_tests}
use Rattle.integers.specs.Below.{if_below}

pub if_below-some : (m k : ℕ) → k < m → Some k ≡ if_below m k
if_below-some m k h = grind (arith, nat_tests)

pub if_below-none : (m k : ℕ) → m ≤ k → None ≡ if_below m k
if_below-none m k h = grind (arith, nat_tests)

-- what stands there, read back
pub some-below : (m k p : ℕ) → Some p ≡ if_below m k → (p ≡ k) × (k < m)
some-below m k p e = grind (arith, nat_tests)

pub none-below : (m k : ℕ) → None ≡ if_below m k → m ≤ k
none-below m k e = grind (arith, nat_tests)
