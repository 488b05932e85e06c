-- The parts of the rows passed stand one after another (`Placed`). Assumes nothing.
use Rattle.paper.specs.Lists.{nat}
use Rattle.salvage.specs.Packing.{part_of_row}
use Rattle.damage.proofs.Stored.{Placed}
use Rattle.salvage.proofs.packing.copy.pack_parts.Given as goal

abbrev pub invariant-loop-row : goal.invariant-loop-row
invariant-loop-row g l = Placed (λ k. part_of_row l.firsts l.counts l.entries (nat l.rows k)) l.initial.out 0 l.out l.at l.row-index
