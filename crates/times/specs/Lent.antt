-- The windows that a call is lent, as the board that they are of. Assumes nothing.
use Rattle.std.specs.Prelude.{ℕ, ◌≤◌, List, ℤ, length, Option}
use Rattle.times.specs.Windows.{Board, lends}
use Rattle.times.specs.Taken.{Next}
use Rattle.times.specs.declared.Windows.{Windows}

module _ (w : Windows) where
  -- with a row for the list
  abbrev pub lent_windows : List ℤ → Board
  lent_windows row = lends w.count w.starts.now w.ends.now w.headways.now row

  -- all times of the windows are lent
  abbrev pub Timed : Type 0
  Timed = (w.count ≤ length w.starts.now) × (w.count ≤ length w.ends.now)

  -- of the windows below i, the first that starts after `last` and has departures, if any does
  abbrev pub Sooner : ℤ → ℕ → Option ℕ → Type 0
  Sooner last i found = Next w.starts.now w.ends.now last w.count i found
