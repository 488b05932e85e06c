-- The results before this one are the asked reasons, and the rest as they were (`Filled`). Assumes nothing.
use Rattle.paper.specs.Lists.{nat}
use Rattle.paper.proofs.Buffers.{Filled}
use Rattle.whys.specs.Given.{reason_now}
use Rattle.whys.proofs.reasoned.ask_by.Given as goal

abbrev pub invariant-loop-i : goal.invariant-loop-i
invariant-loop-i l = Filled (λ k. reason_now l.tables l.values l.by l.flags (nat l.stored (nat l.asked k)) (nat l.asked k)) l.initial.out l.out l.i
