-- What a route runs over. Assumes nothing.
use Rattle.std.specs.Prelude.{ℕ, ◌≤◌, ◌<◌, true, List, ◌≡◌, ℤ, length, take}
use Rattle.paper.specs.Tables.{Tables, values_in}
use Rattle.paper.specs.Checks.{Sound}
use Rattle.paper.specs.Chains.{group_order, determined, stored_fresh}

module _ (t : Tables) (ord : List ℕ) (stored : List ℤ) where
  -- the order is build's, the stored values passed check 21, and those of a begun trial row leave every variable determined
  pub record Running (trial : List ℤ) : Type 0 where
    pub sound : Sound t
    pub in_order : t.m ≤ length ord
    pub order_is : take t.m ord ≡ group_order t
    pub fresh : (v : ℕ) → v < t.n → stored_fresh t (values_in t stored) v ≡ true
    pub determined : (v : ℕ) → v < t.n → determined t (values_in t trial) v ≡ true
