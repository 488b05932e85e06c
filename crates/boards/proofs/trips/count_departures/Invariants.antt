-- The count is that of the windows before this one. Assumes nothing.
use Rattle.std.proofs.Common.{◌≡◌, min, length, []}
use Rattle.times.specs.Windows.{times_below}
use Rattle.times.specs.Lent.{lent_windows}
use Rattle.boards.proofs.trips.count_departures.Given as goal

abbrev pub invariant-loop-i : goal.invariant-loop-i
invariant-loop-i l = l.count ≡ min (length (times_below (lent_windows l.windows []) l.i)) 2001
