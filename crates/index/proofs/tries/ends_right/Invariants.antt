-- The loop has joined the tests of every variable before this one (`Joint`). Assumes nothing.
use Rattle.std.proofs.Common.{◌+◌, ◌%◌}
use lib.Dec.{eqb}
use Rattle.paper.specs.Lists.{nat}
use Rattle.paper.proofs.Scan.{Joint}
use Rattle.index.proofs.tries.ends_right.Given as goal

abbrev pub invariant-loop-v : goal.invariant-loop-v
invariant-loop-v l = Joint (λ u. eqb (nat l.cells u % 65536) (nat l.starts (u + 1))) l.n l.v l.all
