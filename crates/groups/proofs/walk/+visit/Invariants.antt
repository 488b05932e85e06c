-- A visit enters v, visits its links (`Going`), and closes v's group if none of them leads below v's place (`Closing`); each call leaves fewer fresh variables
-- than this one met. Assumes nothing.
use Rattle.std.proofs.Math.Seq.{slice}
use Rattle.paper.specs.Lists.{size}
use Rattle.groups.specs.Links.{links_of}
use Rattle.groups.specs.Walk.{unentered}
use Rattle.groups.proofs.Going.{Going}
use Rattle.groups.proofs.walk.+visit.Given as goal

abbrev pub decreases-visit : goal.decreases-visit
decreases-visit l = size (unentered l.marks.now) l.links.now.n

abbrev pub invariant-loop-i : goal.invariant-loop-i
invariant-loop-i l = Going l.links.n (links_of l.links) l.v l.place (slice l.i l.i-end l.links.vars.now) l.low l.initial.marks l.marks l.stack l.numbers
