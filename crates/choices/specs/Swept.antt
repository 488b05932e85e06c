-- The walk that follows the choices, on its way: what the rows of values and states hold after the visits so far. Assumes nothing.
use Rattle.std.specs.Prelude.{ℕ, ◌<◌, true, List, ◌⊎◌, ◌≡◌, ℤ, length}
use Rattle.paper.specs.Lists.{nat}
use Rattle.paper.specs.Net.{Net}
use Rattle.routes.specs.Rows.{values_of}
use Rattle.choices.specs.Visiting.{ValuesRight, Held}

module _ (N : Net) (n : ℕ) where
  -- the variables below v have been visited; `start` are the values from which the walk set out
  pub record Swept (v : ℕ) (start values : List ℤ) (states : List ℕ) : Type 0 where
    pub right : ValuesRight N n values states
    pub begun : (u : ℕ) → u < v → 0 < nat states u
    pub still : (u : ℕ) → (values_of values u ≡ values_of start u) ⊎ ((nat states u ≡ 2) × (N.made u ≡ true))
    pub long : length values ≡ length start
    pub held : (u : ℕ) → nat states u ≡ 1 → Held N n values states u
