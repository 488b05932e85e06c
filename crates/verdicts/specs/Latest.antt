-- The latest move of a log, where a program reads it. Assumes nothing.
use Rattle.std.specs.Prelude.{ℕ, pred, ◌+◌, ◌*◌, ◌≤◌, ◌<◌, length}
use Rattle.paper.specs.Log.{Log, logged, back}
use Rattle.rows.specs.Put.{PairsFit}

-- its size and its pairs stand inside the log's rows
pub record LatestRoom (l : Log) : Type 0 where
  pub few : pred (logged l) < 64
  pub in-sizes : pred (logged l) + 1 < length l.sizes
  pub in-vars : 64 * pred (logged l) ≤ length l.vars
  pub in-values : 64 * pred (logged l) ≤ length l.values

-- its size and its pairs stand inside the log's rows, and it names variables below n
pub record LatestFits (n : ℕ) (l : Log) : Type 0 where
  pub few : pred (logged l) < 64
  pub in-sizes : pred (logged l) + 1 < length l.sizes
  pub in-vars : 64 * pred (logged l) ≤ length l.vars
  pub in-values : 64 * pred (logged l) ≤ length l.values
  pub pairs : PairsFit n (back l (pred (logged l)))
