-- Row after row stands where the readers of its inputs have reached (`Walked`), and `due` has joined the tests of what they make (`Joint`); the first
-- that does not stand decides, and then the ends do. Assumes nothing.
use Rattle.std.proofs.Common.{take}
use Rattle.paper.proofs.Scan.{Joint}
use Rattle.order.specs.Formed.{bare_lent}
use Rattle.order.specs.Numbering.{made_right}
use Rattle.index.specs.Index.{entries_lent}
use Rattle.index.proofs.Walk.{Walked}
use Rattle.index.proofs.readers.right.walk_rows.Given as goal

abbrev pub invariant-loop-r : goal.invariant-loop-r
invariant-loop-r g l =
    Walked (entries_lent l.tables) l.index.starts.now (take l.tables.e l.index.places.now) l.r l.cells
    × Joint (made_right (bare_lent l.tables) l.nums) l.tables.m l.r l.due
