-- Every named variable before this one that moved is touched, and what is made from it (`Passed`, `Noted`). Assumes nothing.
use Rattle.routes.specs.Sections.{made_from}
use Rattle.routes.specs.Readers.{variables}
use Rattle.routes.proofs.Passing.{Passed}
use Rattle.probes.specs.Touched.{Noted}
use Rattle.probes.proofs.touch.touch_moved.Given as goal

abbrev pub invariant-loop-m : goal.invariant-loop-m
invariant-loop-m l =
    Passed (made_from l.makes l.index.starts.now l.index.places.now) l.moves l.stored l.trial l.initial.marks l.m-index l.marks × Noted (variables l.index.starts.now) l.by l.marks l.work l.touched l.count
