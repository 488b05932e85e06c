-- The places passed hold the sums of the counts before them (`Filled`), and the sum so far is where the next part begins. Assumes nothing.
use mathlib.Core.Path.{◌≡◌}
use lib.ListN.{take}
use Rattle.paper.specs.Lists.{total}
use Rattle.paper.proofs.Buffers.{Filled}
use Rattle.salvage.proofs.packing.copy.pack_firsts.Given as goal

abbrev pub invariant-loop-i : goal.invariant-loop-i
invariant-loop-i l = (l.first ≡ total (take l.i l.counts)) × Filled (λ k. total (take k l.counts)) l.initial.out l.out l.i
