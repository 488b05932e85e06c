-- Each variable of the part has its turn, and what is still to come stands as it did (`PartNoted`). Assumes nothing.
use Rattle.whys.specs.Given.{blank_now}
use Rattle.whys.specs.Rows.{PartNoted}
use Rattle.whys.proofs.reasoned.note_part.Given as goal

abbrev pub invariant-loop-v : goal.invariant-loop-v
invariant-loop-v l = PartNoted (blank_now l.tables l.values l.by l.flags) l.first l.v l.initial.reasons l.reasons
