-- The row holds the makers among the rows from this one on (`Filling`); an earlier row is written over a later one. Assumes nothing.
use Rattle.tables.proofs.Made.{Filling}
use Rattle.tables.proofs.maker.makers.Given as goal

abbrev pub invariant-loop-row : goal.invariant-loop-row
invariant-loop-row l = Filling l.n l.m l.makes l.initial.by l.by l.row
