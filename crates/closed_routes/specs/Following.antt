-- What is known where all new values are worked out by following the choices, and what the route evaluates. Assumes nothing.
use Rattle.std.specs.Prelude.{ℕ, ◌≤◌, ◌<◌, true, cond, List, ◌≡◌, ℤ, length}
use Rattle.paper.specs.Lists.{over}
use Rattle.paper.specs.Net.{Route, valuation}
use Rattle.paper.specs.Tables.{Tables, net, values_in}
use Rattle.paper.specs.Checks.{Sound}
use Rattle.paper.specs.Chains.{worth, determined}
use Rattle.routes.specs.Rows.{values_of}
use Rattle.routes.specs.Routed.{evaluated_of}

module _ (t : Tables) (stored trial : List ℤ) where
  -- the stored values are fresh, and from the search variables' new values every variable is determined
  pub record Steady : Type 0 where
    pub sound : Sound t
    pub fresh : (v : ℕ) → values_in t stored v ≡ valuation (net t) (values_in t stored) (values_in t stored) v
    pub determined : (v : ℕ) → v < t.n → determined t (values_in t trial) v ≡ true

  -- and the new values are worked out
  pub record Renewed (values : List ℤ) : Type 0 where
    pub steady : Steady
    pub in-stored : t.n ≤ length stored
    pub in-values : t.n ≤ length values
    pub new : (v : ℕ) → v < t.n → values_of values v ≡ worth t (values_in t trial) v

  -- the flags are those of the variables that the route evaluates
  pub record Flagged (route : Route) (asked flags flags' : List ℕ) : Type 0 where
    pub are : flags' ≡ over t.n (λ v. cond (evaluated_of t route stored trial asked v) 1 0) flags
