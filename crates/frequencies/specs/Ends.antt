-- Where the rows of a file end. Assumes nothing.
use Rattle.std.specs.Prelude.{ℕ, ◌-◌, ◌≤◌, List, ◌≡◌, length, take, drop}
use Rattle.frequencies.specs.Csv.{trimmed}

-- from `mark` to `end` stands the file without the line ends at its end
pub record Trimmed (bytes : List ℕ) (mark end : ℕ) : Type 0 where
  pub low : mark ≤ end
  pub high : end ≤ length bytes
  pub body : take (end - mark) (drop mark bytes) ≡ trimmed (drop mark bytes)
