-- Each variable passed has barred its mark if its index has it (`barred-next`). Assumes nothing.
use Rattle.chains.specs.Back.{back_in, BarredFlags}
use Rattle.chains.proofs.bars.barred.bar_groups.Given as goal

abbrev pub invariant-loop-v : goal.invariant-loop-v
invariant-loop-v l = BarredFlags (back_in l.kinds l.by l.links l.marks) l.marks l.v l.barred
