-- The buckets that values fall into. Assumes nothing.
use Rattle.std.specs.Prelude.{ℕ, ◌*◌, ◌/◌, ◌%◌, ◌<◌, List, ◌≡◌, eqb, ℤ, length}
use Rattle.std.specs.Int.{w32}
use Rattle.std.proofs.Common.{of_z}
use Rattle.paper.specs.Lists.{nat, tally}

-- the bucket of a value: some bits from the middle of a product, so that values in equal steps fall apart
unfoldable pub bucket_of : ℤ → ℕ
bucket_of x = of_z w32 x * 2654435769 / 2097152 % 2048

-- how many of these values fall into each of the buckets
pub record Bucketed (xs : List ℤ) (counts : List ℕ) : Type 0 where
  pub long : length counts ≡ 2048
  pub at : (k : ℕ) → k < 2048 → nat counts k ≡ tally (λ x. eqb (bucket_of x) k) xs
