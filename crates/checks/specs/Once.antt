-- What check 5 reads: the rows' variables, and the row of their makers. Assumes nothing.
use Rattle.std.specs.Prelude.{ℕ, ◌≤◌, ◌<◌, List, ◌≡◌, length}
use Rattle.paper.specs.Lists.{nat}
use Rattle.tables.specs.Makers.{maker_of}

-- m rows make variables below n, and `by` is the row of their makers
pub record Made (n m : ℕ) (makes by : List ℕ) : Type 0 where
  pub rows : m ≤ length makes
  pub long : n ≤ length by
  pub below : (r : ℕ) → r < m → nat makes r < n
  pub at : (v : ℕ) → v < n → nat by v ≡ maker_of m makes v
