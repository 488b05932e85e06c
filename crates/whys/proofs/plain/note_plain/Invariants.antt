-- Each variable has its reason in its turn, and what is still to come stands as it did (`Filled`). Assumes nothing.
use Rattle.paper.specs.Lists.{nat}
use Rattle.paper.proofs.Buffers.{Filled}
use Rattle.whys.specs.Plain.{plain_noted}
use Rattle.whys.proofs.plain.note_plain.Given as goal

abbrev pub invariant-loop-v : goal.invariant-loop-v
invariant-loop-v l = Filled (plain_noted l.by l.flags (nat l.initial.reasons)) l.initial.reasons l.reasons l.v
