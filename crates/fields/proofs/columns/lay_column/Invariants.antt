-- The places passed hold the column, the others what they held (`Filled`). Assumes nothing.
use Prim.Native.Nat.{◌≤◌}
use Rattle.paper.specs.File.{column}
use Rattle.paper.proofs.Buffers.{Filled}
use Rattle.fields.proofs.columns.lay_column.Given as goal

abbrev pub invariant-loop-i : goal.invariant-loop-i
invariant-loop-i g l = let f = g.N.Number in (l.i ≤ l.count) × Filled (λ i. f.of_bits (column l.bytes f.width l.at l.step i)) l.initial.out l.out l.i
