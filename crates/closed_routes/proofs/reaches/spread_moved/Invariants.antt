-- Every named variable before this one that moved is marked, and what is made from it (`Passed`). Assumes nothing.
use Rattle.routes.specs.Sections.{made_from}
use Rattle.routes.proofs.Passing.{Passed}
use Rattle.closed_routes.proofs.reaches.spread_moved.Given as goal

abbrev pub invariant-loop-m : goal.invariant-loop-m
invariant-loop-m l = Passed (made_from l.makes l.index.starts.now l.index.places.now) l.moves l.stored l.trial l.initial.marks l.m-index l.marks
