-- The marks are set at the variables named before this place (`Seen`), so a mark found is an earlier place's. Assumes nothing.
use Prim.Native.Nat.{◌-◌}
use Rattle.paper.specs.Checks.{made_once}
use Rattle.paper.proofs.Scan.{Scan}
use Rattle.checks.specs.Named.{makes_rows}
use Rattle.checks.proofs.Seen.{Seen}
use Rattle.checks.proofs.repeats.first_marked.Given as goal

abbrev pub invariant-loop-i : goal.invariant-loop-i
invariant-loop-i l = Scan (made_once (makes_rows l.vars)) l.m l.i × Seen l.vars l.seen l.i

abbrev pub decreases-loop-i : goal.decreases-loop-i
decreases-loop-i l = l.m - l.i
