-- What holds of reading and writing: what was written is read back to the same windows and names, and so is what was read and written; what was read
-- of a written file is written as the same bytes. `proofs/` has the proofs. Assumes nothing.
use Rattle.std.specs.Prelude.{ℕ, ◌≤◌, ◌<◌, List, true, ◌≡◌, length, take, Ok, Err}
use Rattle.std.specs.Int.{w32}
use Rattle.std.proofs.Common.{SFits}
use Rattle.frequencies.specs.Reading.{Windows, room_for, ReadOutcome}
use Rattle.frequencies.specs.Writing.{name_at, start_at, end_at, headway_given, exact_given, file_bytes, room_in, WriteOutcome}
use Rattle.tables.specs.Answers.{refusal}

-- window i of one text is window i of another: name, times, headway and exact_times
pub record SameWindow (text : List ℕ) (w : Windows) (text' : List ℕ) (w' : Windows) (i : ℕ) : Type 0 where
  pub name : name_at text w i ≡ name_at text' w' i
  pub start : start_at w i ≡ start_at w' i
  pub end : end_at w i ≡ end_at w' i
  pub headway : headway_given w i ≡ headway_given w' i
  pub exact : exact_given w i ≡ exact_given w' i

-- the times and headways are numbers of 32 bits, as they are in lent rows
pub record Fitting (count : ℕ) (w : Windows) : Type 0 where
  pub starts : (i : ℕ) → i < count → SFits w32 (start_at w i)
  pub ends : (i : ℕ) → i < count → SFits w32 (end_at w i)
  pub headways : (i : ℕ) → i < count → SFits w32 (headway_given w i)

-- a file that was written is read: as many windows, each the same
abbrev pub WrittenIsRead : Type 0
WrittenIsRead =
    (count : ℕ) (text : List ℕ) (w : Windows) → Fitting count w → (buffer : List ℕ) (o : WriteOutcome count text w buffer) (size : ℕ) → o.answer ≡ Ok size
    → (lent : Windows) → room_for count lent ≡ true → (p : ReadOutcome (take size o.buffer) lent)
    → (p.answer ≡ Ok count) × ((i : ℕ) → i < count → SameWindow text w (take size o.buffer) p.windows i)

-- a file that was read is written where there is room for it
abbrev pub ReadIsWritten : Type 0
ReadIsWritten =
    (bytes : List ℕ) (lent : Windows) (o : ReadOutcome bytes lent) (count : ℕ) → o.answer ≡ Ok count
    → (buffer : List ℕ) → room_in count bytes o.windows buffer ≡ true → (p : WriteOutcome count bytes o.windows buffer)
    → p.answer ≡ Ok (length (file_bytes count bytes o.windows))

-- and read again it has as many windows, each the same
abbrev pub ReadAgain : Type 0
ReadAgain =
    (bytes : List ℕ) (lent : Windows) (o : ReadOutcome bytes lent) (count : ℕ) → o.answer ≡ Ok count
    → (buffer : List ℕ) → room_in count bytes o.windows buffer ≡ true → (p : WriteOutcome count bytes o.windows buffer)
    → let file = take (length (file_bytes count bytes o.windows)) p.buffer in (again : Windows) → room_for count again ≡ true → (q : ReadOutcome file again)
    → (q.answer ≡ Ok count) × ((i : ℕ) → i < count → SameWindow bytes o.windows file q.windows i)

-- a file that was written, read and written again has the same bytes
abbrev pub WrittenAgain : Type 0
WrittenAgain =
    (count : ℕ) (text : List ℕ) (w : Windows) → Fitting count w → (buffer : List ℕ) (o : WriteOutcome count text w buffer) (size : ℕ) → o.answer ≡ Ok size
    → let file = take size o.buffer in (lent : Windows) → room_for count lent ≡ true → (p : ReadOutcome file lent)
    → (again : List ℕ) → size ≤ length again → (q : WriteOutcome count file p.windows again)
    → (q.answer ≡ Ok size) × (take size q.buffer ≡ file)

-- ── a call that was refused left what it was lent as it was; and any two outcomes of a call are the same ──
abbrev pub ReadRefused : Type 0
ReadRefused = (bytes : List ℕ) (lent : Windows) (o : ReadOutcome bytes lent) (number place : ℕ) → o.answer ≡ Err (refusal number place) → o.windows ≡ lent

abbrev pub WriteRefused : Type 0
WriteRefused =
    (count : ℕ) (text : List ℕ) (w : Windows) (lent : List ℕ) (o : WriteOutcome count text w lent) (number place : ℕ) → o.answer ≡ Err (refusal number place)
    → o.buffer ≡ lent

abbrev pub ReadOnce : Type 0
ReadOnce = (bytes : List ℕ) (lent : Windows) (o p : ReadOutcome bytes lent) → (o.answer ≡ p.answer) × (o.windows ≡ p.windows)

abbrev pub WriteOnce : Type 0
WriteOnce = (count : ℕ) (text : List ℕ) (w : Windows) (lent : List ℕ) (o p : WriteOutcome count text w lent) → (o.answer ≡ p.answer) × (o.buffer ≡ p.buffer)
