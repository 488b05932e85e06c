-- The rows passed are said to be kept or not (`Filled`), and the marks and the number are those of the rows kept (`Taken`). Assumes nothing.
use Prim.Native.Nat.{◌≤◌}
use Rattle.paper.proofs.Buffers.{Filled}
use Rattle.damage.specs.Saved.{kept_rows}
use Rattle.damage.specs.Keeping.{Taken}
use Rattle.damage.proofs.KeptRows.{keeps}
use Rattle.damage.proofs.kept.keep.keep_rows.Given as goal

abbrev pub invariant-loop-row : goal.invariant-loop-row
invariant-loop-row l =
    (l.row ≤ l.tables.m) × Filled (keeps l.bytes) l.initial.stands l.stands l.row × Taken l.tables.makes.now l.tables.counts.now (kept_rows l.bytes l.row) l.made l.used
