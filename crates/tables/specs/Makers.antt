-- The row of makers: for each variable, which row makes it. Assumes nothing.
use Rattle.std.specs.Prelude.{ℕ, suc, ◌≤◌, ◌<◌, cond, List, ◌≡◌, ltb, length, take}
use Rattle.paper.specs.Lists.{nat, seek}
use Rattle.paper.specs.Tables.{Tables}

-- the first k of the list are below n
pub record AllBelow (k : ℕ) (l : List ℕ) (n : ℕ) : Type 0 where
  pub at : (i : ℕ) → i < k → nat l i < n

-- one more than the row, of the m, that makes v; 0 if none does
abbrev pub maker_of : ℕ → List ℕ → ℕ → ℕ
maker_of m makes v = let row = seek v (take m makes) in cond (ltb row m) (suc row) 0

-- `by` is the row of makers of the tables
pub record Makers (t : Tables) (by : List ℕ) : Type 0 where
  pub long : t.n ≤ length by
  pub at : (v : ℕ) → v < t.n → nat by v ≡ maker_of t.m t.makes v
