-- What a column needs of the file. Assumes nothing.
use Rattle.std.specs.Prelude.{ℕ, ◌+◌, ◌*◌, ◌≤◌, ◌<◌}

-- count numbers of w bytes at, at + step, at + 2 step and on lie within a file of this size
pub record Inside (size at step w count : ℕ) : Type 0 where
  pub each : (i : ℕ) → i < count → at + step * i + w ≤ size
