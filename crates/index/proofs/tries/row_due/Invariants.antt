-- The variables of the part passed have been tried, each with success, and `best` is due from them (`Passing`); the first without decides.
-- Assumes nothing.
use Rattle.index.proofs.Tried.{Passing}
use Rattle.index.proofs.tries.row_due.Given as goal

abbrev pub invariant-loop-var : goal.invariant-loop-var
invariant-loop-var l = Passing l.r l.part l.nums l.places l.initial.cells l.var-index l.best l.cells
