-- The results before this one are the asked reasons, and the rest as they were (`Filled`). Assumes nothing.
use Rattle.paper.specs.Lists.{nat}
use Rattle.paper.proofs.Buffers.{Filled}
use Rattle.whys.specs.Plain.{plain_now}
use Rattle.whys.proofs.plain.ask_plain.Given as goal

abbrev pub invariant-loop-i : goal.invariant-loop-i
invariant-loop-i l = Filled (λ k. plain_now l.flags (nat l.stored) (nat l.asked k)) l.initial.out l.out l.i
