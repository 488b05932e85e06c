-- Tables over which every value can be worked out. Assumes nothing.
use Rattle.std.specs.Prelude.{ℕ, ◌≤◌, ◌<◌, true, List, ◌≡◌, ℤ, length, take}
use Rattle.paper.specs.Tables.{Tables, values_in}
use Rattle.paper.specs.Checks.{Sound}
use Rattle.paper.specs.Chains.{group_order, determined}
use Rattle.chains.specs.Links.{kinded, Grouped}

-- sound tables with build's numbers and order, whose closed chains are permitted, and search variables' values that determine every variable
pub record Workable (t : Tables) (numbers order : List ℕ) (values : List ℤ) : Type 0 where
  pub sound : Sound t
  pub grouped : Grouped (kinded t.n t.m t.kinds t.makes t.firsts t.counts t.vars) numbers
  pub in_order : t.m ≤ length order
  pub order_is : take t.m order ≡ group_order t
  pub in-values : t.n ≤ length values
  pub determined : (v : ℕ) → v < t.n → determined t (values_in t values) v ≡ true
