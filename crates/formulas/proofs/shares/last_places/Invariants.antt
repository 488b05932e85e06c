-- The places before this one had their turn (`TurnsTaken`). Assumes nothing.
use Rattle.formulas.specs.Marks.{TurnsTaken}
use Rattle.formulas.proofs.shares.last_places.Given as goal

abbrev pub invariant-loop-i : goal.invariant-loop-i
invariant-loop-i l = TurnsTaken l.held l.marks l.i l.n
