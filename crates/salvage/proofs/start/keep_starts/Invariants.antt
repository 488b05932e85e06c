-- The places passed hold this turn's test and the value kept, and a value is looked at before it is written (`Filled`). Assumes nothing.
use mathlib.Core.Bool.{cond}
use lib.IntN.{pos}
use lib.ListN.{get_or}
use Rattle.paper.proofs.Buffers.{Filled}
use Rattle.salvage.specs.Saving.{start_taken}
use Rattle.salvage.proofs.start.keep_starts.Given as goal

abbrev pub invariant-loop-v : goal.invariant-loop-v
invariant-loop-v l = Filled (start_taken l.size l.by l.initial.starts) l.initial.taken l.taken l.v × Filled (λ u. cond (start_taken l.size l.by l.initial.starts u) (get_or l.initial.starts u (pos 0)) (pos 0)) l.initial.starts l.starts l.v
