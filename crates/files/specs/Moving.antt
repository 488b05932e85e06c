-- What a move from one version to another needs to know of the file. Assumes nothing.
use Rattle.std.specs.Prelude.{ℕ, ◌+◌, Bool, ◌&&◌, List, eqb}
use Rattle.std.specs.Int.{w32}
use Rattle.std.proofs.Common.{of_z}
use Rattle.paper.specs.Checks.{lowest, highest}
use Rattle.paper.specs.File.{column}

-- of bounds that begin at a place, those of a variable are full
abbrev pub full_at : List ℕ → ℕ → ℕ → Bool
full_at bytes at v = eqb (column bytes 4 at 8 v) (of_z w32 lowest) && eqb (column bytes 4 (at + 4) 8 v) (of_z w32 highest)
