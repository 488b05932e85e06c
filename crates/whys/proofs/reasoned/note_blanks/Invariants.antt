-- The variables before this one have had their turn (`PartNoted`): a part in which a value is blank has it now, and in any other all stand as they are to. Assumes nothing.
use Prim.Native.Nat.{◌-◌, ◌≤◌}
use Rattle.whys.specs.Given.{blank_now}
use Rattle.whys.specs.Rows.{PartNoted}
use Rattle.whys.proofs.reasoned.note_blanks.Given as goal

abbrev pub invariant-loop-v : goal.invariant-loop-v
invariant-loop-v l = (l.v ≤ l.tables.n) × PartNoted (blank_now l.tables l.values l.by l.flags) 0 l.v l.initial.reasons l.reasons

abbrev pub decreases-loop-v : goal.decreases-loop-v
decreases-loop-v l = l.tables.n - l.v
