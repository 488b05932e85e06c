-- The variables at the places passed have the mark and the number (`Marking`). Assumes nothing.
use Rattle.std.proofs.Common.{◌+◌}
use Rattle.groups.specs.Stack.{Marked}
use Rattle.groups.proofs.stacks.mark_group.Given as goal

abbrev pub invariant-loop-u : goal.invariant-loop-u
invariant-loop-u l = Marked l.p (l.p + l.u-index) l.mark l.number l.initial.marks l.initial.numbers l.marks l.numbers
