-- The flags passed are those that stand, and a flag is looked at before it is written (`Filled`). Assumes nothing.
use mathlib.Core.Bool.{false, ◌&&◌}
use lib.ListN.{get_or}
use Rattle.paper.specs.Lists.{nat}
use Rattle.paper.proofs.Buffers.{Filled}
use Rattle.order.specs.Numbering.{ended}
use Rattle.salvage.proofs.packing.number.clear_rows.Given as goal

abbrev pub invariant-loop-r : goal.invariant-loop-r
invariant-loop-r l = Filled (λ k. get_or l.initial.row k false && ended l.state (nat l.makes k)) l.initial.row l.row l.r
