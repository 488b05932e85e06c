-- Each of the readers flags what it makes, and those from this place on are left (`flag-next`). Assumes nothing.
use Rattle.std.proofs.Common.{◌≤◌, ◌≡◌, map, length}
use Rattle.std.proofs.Math.Seq.{slice}
use Rattle.paper.specs.Lists.{nat}
use Rattle.routes.specs.Sections.{made_from}
use Rattle.routes.specs.Routed.{flag_each}
use Rattle.routes.proofs.sweep.flag_readers.Given as goal

abbrev pub invariant-loop-i : goal.invariant-loop-i
invariant-loop-i l =
    (nat l.index.starts.now l.v ≤ l.i) × (length l.flags ≡ length l.initial.flags)
    × (flag_each (map (nat l.makes) (slice l.i l.end l.index.places.now)) l.flags ≡ flag_each (made_from l.makes l.index.starts.now l.index.places.now l.v) l.initial.flags)
