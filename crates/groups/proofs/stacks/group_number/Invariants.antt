-- `best` is the greatest of what the links of the places passed ask (`Asking`). Assumes nothing.
use Rattle.std.proofs.Common.{◌+◌}
use Rattle.paper.specs.Lists.{nat}
use Rattle.groups.specs.Links.{links_of}
use Rattle.groups.specs.Stack.{asked_at, first_number, Best}
use Rattle.groups.proofs.stacks.group_number.Given as goal

abbrev pub invariant-loop-u : goal.invariant-loop-u
invariant-loop-u l =
    Best (asked_at (links_of l.links) l.marks l.stack l.numbers) (nat l.marks l.v) (nat l.marks l.v + l.u-index)
    (first_number l.links.begins.now l.links.stops.now l.v) l.best
