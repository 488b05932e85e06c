-- What the code knows once tables and bounds are judged. Assumes nothing.
use Rattle.std.specs.Prelude.{◌≡◌, List, ℕ, Result}
use Rattle.paper.specs.Tables.{Tables}
use Rattle.paper.specs.Checks.{accepted, Bounds, table_lines, by_lines}
use Rattle.tables.specs.Answers.{answer_of}
use Rattle.tables.specs.Makers.{Makers}
use Rattle.tables.specs.declared.Refusal.{Refusal}

-- the answer is that of checks 2 to 5, and if that is acceptance the row holds the makers
pub record TablesJudged (t : Tables) (bs : Bounds) (by : List ℕ) (r : Result Unit Refusal) : Type 0 where
  pub verdict : r ≡ answer_of tt (by_lines (table_lines t bs) accepted)
  pub makers : by_lines (table_lines t bs) accepted ≡ accepted → Makers t by
