-- The greater of `best` and of what the links that are left ask stays what all links ask (`Asking`). Assumes nothing.
use Rattle.std.proofs.Math.Seq.{slice}
use Rattle.groups.specs.Asked.{asked}
use Rattle.groups.specs.Links.{links_of}
use Rattle.groups.proofs.Asking.{Asking}
use Rattle.groups.proofs.asks.asks_of.Given as goal

abbrev pub invariant-loop-i : goal.invariant-loop-i
invariant-loop-i l = Asking l.links.n (asked l.marks l.numbers) (links_of l.links l.v) (slice l.i l.i-end l.links.vars.now) l.best
