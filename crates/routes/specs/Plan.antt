-- The row of work that marks give, and the routes that it serves. Assumes nothing.
use Rattle.std.specs.Prelude.{ℕ, true, cond, ◌&&◌, List, [], ◌≡◌, eqb, ℤ}
use Rattle.paper.specs.Lists.{nat, below}
use Rattle.paper.specs.Net.{Route, live, works, needed}
use Rattle.paper.specs.Tables.{Tables, net, is_made, values_in}
use Rattle.tables.specs.Makers.{maker_of}
use Rattle.routes.specs.Routed.{new_of, evaluated_of}

-- one more than the row of a variable that is made and marked, else 0
abbrev pub planned : ℕ → List ℕ → List ℕ → ℕ → ℕ
planned m makes marks v = cond (eqb (nat marks v) 1) (maker_of m makes v) 0

unfoldable pub work_of : ℕ → ℕ → List ℕ → List ℕ → List ℕ
work_of n m makes marks = below (planned m makes marks) n

-- the route evaluates what is needed, and the marks say which of the made variables it works out
pub record Guides (t : Tables) (route : Route) (stored trial : List ℤ) (marks : List ℕ) : Type 0 where
  pub asks : (asked : List ℕ) (v : ℕ) → evaluated_of t route stored trial asked v
      ≡ (works (net t) route (values_in t stored) (values_in t trial) t.n v
      && needed (net t) (works (net t) route (values_in t stored) (values_in t trial) t.n) (new_of t route stored trial asked) asked t.n v)
  pub shows : (v : ℕ) → is_made t v ≡ true → eqb (nat marks v) 1 ≡ live (net t) route (values_in t stored) (values_in t trial) t.n (new_of t route stored trial []) v
