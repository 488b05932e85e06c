-- The cells before this one hold their starts (`Begun`). Assumes nothing.
use Rattle.index.specs.Walk.{Begun}
use Rattle.index.proofs.readers.right.begin.Given as goal

abbrev pub invariant-loop-v : goal.invariant-loop-v
invariant-loop-v l = Begun l.v l.starts l.cells
