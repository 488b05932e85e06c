-- What writing the pairs of a move asks for. Assumes nothing.
use Rattle.std.specs.Prelude.{ℕ, ◌≤◌, ◌<◌, List, ℤ, length}
use Rattle.paper.specs.Lists.{nat}

-- at most 64 pairs, all of them lent, and each variable has a stored value
pub record PairsLent (stored : List ℤ) (pairs : ℕ) (vars : List ℕ) : Type 0 where
  pub few : pairs ≤ 64
  pub in-vars : pairs ≤ length vars
  pub low : (i : ℕ) → i < pairs → nat vars i < length stored
