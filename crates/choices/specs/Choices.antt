-- Values worked out by following the choices, in a row of values and a row of states. Assumes nothing.
use Rattle.std.specs.Prelude.{ℕ, ◌<◌, cond, List, ◌≡◌, ℤ, eqb}
use Rattle.paper.specs.Lists.{nat, over}
use Rattle.paper.specs.Tables.{Tables, values_in}
use Rattle.paper.specs.Chains.{worth, determined}

-- from the search variables' values in `before`: every determined variable has its value and the state 2; the others have another state, and are as they were
pub record Followed (t : Tables) (before values : List ℤ) (states : List ℕ) : Type 0 where
  pub values-are : let s = values_in t before in values ≡ over t.n (λ v. cond (determined t s v) (worth t s v) (s v)) before
  pub which : (v : ℕ) → v < t.n → determined t (values_in t before) v ≡ eqb (nat states v) 2
