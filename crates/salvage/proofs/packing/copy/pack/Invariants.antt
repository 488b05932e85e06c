-- The places passed hold what the rows have in the column (`Filled`). Assumes nothing.
use Rattle.std.proofs.Common.{get_or}
use Rattle.paper.specs.Lists.{nat}
use Rattle.paper.proofs.Buffers.{Filled}
use Rattle.salvage.proofs.packing.copy.pack.Given as goal

abbrev pub invariant-loop-i : goal.invariant-loop-i
invariant-loop-i g l = (d : _) → Filled (λ k. get_or l.column (nat l.rows k) d) l.initial.out l.out l.i
