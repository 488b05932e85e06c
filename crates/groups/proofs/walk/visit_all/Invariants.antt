-- Each visit enters its variable, and leaves nothing waiting where nothing waited before (`Sweeping`). Assumes nothing.
use Rattle.groups.specs.Links.{links_of}
use Rattle.groups.specs.Walk.{EnteredBelow}
use Rattle.groups.proofs.walk.visit_all.Given as goal

abbrev pub invariant-loop-v : goal.invariant-loop-v
invariant-loop-v l = EnteredBelow l.links.n (links_of l.links) l.v l.marks l.stack l.numbers
