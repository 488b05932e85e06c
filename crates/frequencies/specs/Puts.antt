-- Bytes written one behind the other into a buffer that has room for them, and what makes a window's line one that can be written. Assumes nothing.
use Rattle.std.specs.Prelude.{ℕ, ◌+◌, ◌≤◌, ◌<◌, true, false, ◌||◌, List, ◌≡◌, eqb, ℤ, pos, length, take, drop}
use Rattle.std.proofs.lemmas.List.Edits.{sets}
use Rattle.std.specs.Int.Signed.{lt_z}
use Rattle.paper.specs.Lists.{nat}
use Rattle.frequencies.specs.Csv.{doubled_from}
use Rattle.frequencies.specs.Reading.{Windows}
use Rattle.frequencies.specs.Writing.{start_at, end_at, headway_given, exact_given}

-- where there is room for them, these bytes stand from place `at` on, and the next byte goes to place `next`
pub record Puts (bytes before : List ℕ) (at : ℕ) (after : List ℕ) (next : ℕ) : Type 0 where
  pub put : at + length bytes ≤ length before → (after ≡ sets before at bytes) × (next ≡ at + length bytes)

-- bytes of a name as they stand: where `double` is not 0, each quote is one of two
pub record Doubles (double : ℕ) (bytes : List ℕ) : Type 0 where
  pub right : (eqb double 0 || doubled_from false bytes) ≡ true

-- one window's numbers, as its line can say them
pub record Sayable (text : List ℕ) (place size double : ℕ) (start end headway : ℤ) : Type 0 where
  pub within : place + size ≤ length text
  pub stands : Doubles double (take size (drop place text))
  pub starts : lt_z start (pos 0) ≡ false
  pub ends : lt_z end (pos 0) ≡ false
  pub headways : lt_z headway (pos 0) ≡ false

-- every window's are, and exact_times is 0 or 1
pub record AllSayable (count : ℕ) (text : List ℕ) (w : Windows) : Type 0 where
  pub each : (i : ℕ) → i < count
      → Sayable text (nat w.name_places i) (nat w.name_lengths i) (nat w.name_doubled i) (start_at w i) (end_at w i) (headway_given w i)

pub record AllExact (count : ℕ) (w : Windows) : Type 0 where
  pub each : (i : ℕ) → i < count → exact_given w i ≤ 1
