-- What was found and the rows that are left say what all rows do (`JudgedSince`). Assumes nothing.
use Rattle.frequencies.specs.Filling.{still_to_fill}
use Rattle.frequencies.specs.Judging.{JudgedSince}
use Rattle.frequencies.proofs.judge.judge_rows.Given as goal

abbrev pub invariant-loop-j : goal.invariant-loop-j
invariant-loop-j l = JudgedSince l.bytes l.columns l.width l.initial.j l.j

abbrev pub decreases-loop-j : goal.decreases-loop-j
decreases-loop-j l = still_to_fill l.bytes l.j.next
