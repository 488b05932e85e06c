-- The places before this one are the sums, and the rest as they were (`Filled`). Assumes nothing.
use Rattle.std.proofs.Common.{◌+◌}
use Rattle.paper.specs.Lists.{nat}
use Rattle.paper.proofs.Buffers.{Filled}
use Rattle.merging.proofs.add_tallies.Given as goal

abbrev pub invariant-loop-k : goal.invariant-loop-k
invariant-loop-k l = Filled (λ j. nat l.first j + nat l.second j) l.initial.by_number l.by_number l.k
