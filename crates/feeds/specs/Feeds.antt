-- From the bytes of frequencies.txt to a trip's board: what the board lists is what the rows of that trip in the file say. Assumes nothing.
use Rattle.std.specs.Prelude.{ℕ, ◌<◌, Bool, true, cond, List, [], ◌∷◌, map, ◌≡◌, ltb, ℤ, pos, ◌+ℤ◌, ◌*ℤ◌, length, get_or, take, Ok}
use Rattle.std.specs.Int.Signed.{lt_z}
use Rattle.paper.specs.Lists.{total, those}
use Rattle.paper.specs.Formula.{places, trips}
use Rattle.times.specs.Windows.{times, Board, lends}
use Rattle.boards.specs.Board.{BoardHad}
use Rattle.frequencies.specs.Csv.{Row, halved}
use Rattle.frequencies.specs.Values.{same}
use Rattle.frequencies.specs.Reading.{Columns, columns_of, body_in, start_of, end_of, headway_of, Windows, header, window_rows, ReadOutcome}
use Rattle.frequencies.specs.Writing.{name_at, start_at, end_at, headway_given}
use Rattle.frequencies.specs.Laws.{WrittenIsRead, ReadIsWritten, ReadAgain, WrittenAgain, ReadRefused, WriteRefused, ReadOnce, WriteOnce}

-- ── in the file ──
-- a row is of this trip: what stands in its trip_id, each two quotes one, is the name
abbrev pub of_trip : Columns → List ℕ → Row → Bool
of_trip c trip r = same (halved (body_in r c.trip)) trip

-- the rows of this trip, in the file's order
abbrev pub rows_of_trip : Columns → List ℕ → List Row → List Row
rows_of_trip c trip [] = []
rows_of_trip c trip (r ∷ rs) = cond (of_trip c trip r) (r ∷ rows_of_trip c trip rs) (rows_of_trip c trip rs)

-- the times that a row gives
abbrev pub row_times : Columns → Row → List ℤ
row_times c r = times (start_of c r) (headway_of c r) (trips (start_of c r) (end_of c r) (headway_of c r))

-- ── on the board: of the windows that were read those with this name are lent ──
abbrev pub trip_board : List ℕ → List ℕ → Windows → ℕ → List ℤ → Board
trip_board bytes trip w count row = let chosen = those (λ i. same (name_at bytes w i) trip) count in
    lends (length chosen) (map (start_at w) chosen) (map (end_at w) chosen) (map (headway_given w) chosen) row

-- a file that was read, a name, and an accepted board of that trip: the list has each time as often as the rows of that trip give it, and of a row there is
-- each start + k · headway that is before its end, and no other
pub record FileToBoard (bytes trip : List ℕ) : Type 0 where
  pub lists : (lent : Windows) (o : ReadOutcome bytes lent) (count : ℕ) → o.answer ≡ Ok count
      → (row : List ℤ) (q : BoardHad (trip_board bytes trip o.windows count row)) (size : ℕ) → q.answer ≡ Ok size
      → let c = columns_of (header bytes) in (z : ℤ) → places z (take size q.row) ≡ total (map (λ (r : Row). places z (row_times c r)) (rows_of_trip c trip (window_rows bytes)))
  pub gives : (c : Columns) (r : Row) → lt_z (pos 0) (headway_of c r) ≡ true → (k : ℕ)
      → ltb k (length (row_times c r)) ≡ lt_z (start_of c r +ℤ pos k *ℤ headway_of c r) (end_of c r)
  pub each : (c : Columns) (r : Row) (k : ℕ) → k < length (row_times c r) → get_or (row_times c r) k (pos 0) ≡ start_of c r +ℤ pos k *ℤ headway_of c r

-- ── all that is said of the file ──
pub record FeedRight : Type 0 where
  -- what was written is read back, what was read can be written, and there and back and there again nothing changes
  pub written_read : WrittenIsRead
  pub read-written : ReadIsWritten
  pub read_again : ReadAgain
  pub written-again : WrittenAgain
  -- a refused call changes nothing, and any two outcomes of a call are equal
  pub read-refused : ReadRefused
  pub write-refused : WriteRefused
  pub read-once : ReadOnce
  pub write-once : WriteOnce
  -- from the bytes to the departures of a trip
  pub board : (bytes trip : List ℕ) → FileToBoard bytes trip
