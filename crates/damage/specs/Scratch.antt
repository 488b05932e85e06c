-- What the scratch rows hold while a file is salvaged. Assumes nothing.
use Rattle.std.specs.Prelude.{ℕ, ◌<◌, Bool, false, List, ◌≡◌, eqb, ℤ, get_or}
use Rattle.paper.specs.Lists.{any}
use Rattle.paper.specs.Tables.{Tables}
use Rattle.paper.specs.Checks.{accepted, by_lines}
use Rattle.paper.specs.File.{version1, unbounded_contents, head_lines, cut}
use Rattle.damage.specs.Saved.{given, start_given, kept_rows, is_saved}

-- the header's version and counts are right, and the rows hold what the file gives
pub record Laid (bytes : List ℕ) (t : Tables) (starts : List ℤ) : Type 0 where
  pub head : by_lines (head_lines version1 bytes) accepted ≡ accepted
  pub is : cut version1 (unbounded_contents t starts) ≡ unbounded_contents (given bytes) (start_given bytes)

-- the row says of each row of the file whether it is kept, and whether it stands in the end
pub record KeptFlags (bytes : List ℕ) (t : Tables) (row : List Bool) : Type 0 where
  pub at : (r : ℕ) → r < t.m → get_or row r false ≡ any (eqb r) (kept_rows bytes t.m)

pub record Standing (bytes : List ℕ) (t : Tables) (row : List Bool) : Type 0 where
  pub at : (r : ℕ) → r < t.m → get_or row r false ≡ is_saved bytes r
