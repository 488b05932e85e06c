-- What the loop over the rows of a file knows when it comes to a row. Assumes nothing.
use Rattle.std.specs.Prelude.{ℕ, ◌≤◌, ◌<◌, Bool, false, List, map, ◌≡◌, eqb, length, get_or}
use Rattle.paper.specs.Lists.{any, total, nat}
use Rattle.paper.specs.Tables.{Tables}
use Rattle.paper.specs.Checks.{accepted, by_lines}
use Rattle.paper.specs.File.{version1, head_lines}
use Rattle.damage.specs.Saved.{given}

-- the header's version and counts are right, and the tables are those that the file gives
pub record FileGives (bytes : List ℕ) (t : Tables) : Type 0 where
  pub head : by_lines (head_lines version1 bytes) accepted ≡ accepted
  pub is : t ≡ given bytes

-- marks say which variables these rows make, and a number how many entries they have
pub record Taken (makes counts rows : List ℕ) (made : List Bool) (used : ℕ) : Type 0 where
  pub full : length made ≡ 4096
  pub at : (v : ℕ) → v < 4096 → get_or made v false ≡ any (λ q. eqb (nat makes q) v) rows
  pub sum : used ≡ total (map (nat counts) rows)
  pub few : used ≤ 16384
