-- The places before j have been compared with the values (`PlacesMarked`), and what was found of each goes on to what is left (`SoughtAll`); in the turn of place j
-- so it is of the values before k (`Comparing`). Assumes nothing.
use Rattle.integers.specs.Integers.{eq_z}
use Rattle.paper.specs.Lists.{any}
use Rattle.formulas.specs.Marks.{PlacesMarked}
use Rattle.formulas.proofs.Marking.{SoughtAll, Comparing}
use Rattle.formulas.proofs.shares.mark.Given as goal

abbrev pub invariant-loop-j : goal.invariant-loop-j
invariant-loop-j g l = SoughtAll l.values l.held l.first l.j l.found × PlacesMarked (λ x. any (eq_z x) l.values) l.held l.first l.j l.initial.marks l.marks

abbrev pub invariant-loop-k : goal.invariant-loop-k
invariant-loop-k g l = Comparing l.values l.held l.first l.j l.k l.found l.same
