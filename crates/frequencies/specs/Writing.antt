-- Writing frequencies.txt, as one function from what the call is lent to what it leaves, accepted or refused: the fields in the reference's order, quoted
-- only where they must be. Assumes nothing.
use Rattle.std.specs.Prelude.{ℕ, zero, suc, ◌+◌, ◌/◌, ◌%◌, min, Bool, false, cond, ◌&&◌, ◌||◌, List, [], ◌∷◌, ◌++◌, ◌≡◌, eqb, leb, ltb, ℤ, pos, nat_abs, length, get_or, take, drop, Result}
use Rattle.std.specs.Int.Signed.{lt_z, le_z}
use Rattle.paper.specs.Lists.{any, every, nat, joined}
use Rattle.paper.specs.Checks.{Verdict, accepted, Line, places, whole, by_lines, leaves}
use Rattle.frequencies.specs.Csv.{is_line_feed, is_return, is_quote, is_comma, halved, doubled_from}
use Rattle.frequencies.specs.Values.{trip_id, start_time, end_time, headway_secs, exact_times}
use Rattle.frequencies.specs.Reading.{Windows, carried_by}
use Rattle.tables.specs.declared.Refusal.{Refusal}

-- ── the bytes of a field ──
-- a number below 10 ^ most in decimal digits, the fewest that hold it
abbrev pub digits_of : ℕ → ℕ → List ℕ
digits_of zero n = []
digits_of (suc most) n = cond (ltb n 10) ((48 + n) ∷ []) (digits_of most (n / 10) ++ ((48 + n % 10) ∷ []))

abbrev pub decimal : ℕ → List ℕ
decimal = digits_of 10

-- a number below 100 in two digits
abbrev pub two_digits : ℕ → List ℕ
two_digits n = (48 + n / 10) ∷ (48 + n % 10) ∷ []

-- hours in two digits, or more where they are needed
abbrev pub hours_bytes : ℕ → List ℕ
hours_bytes h = cond (ltb h 100) (two_digits h) (decimal h)

abbrev pub time_bytes : ℕ → List ℕ
time_bytes t = hours_bytes (t / 3600) ++ (58 ∷ []) ++ two_digits (t / 60 % 60) ++ (58 ∷ []) ++ two_digits (t % 60)

-- a name with each quote double
abbrev pub doubled : List ℕ → List ℕ
doubled [] = []
doubled (b ∷ bs) = cond (is_quote b) (34 ∷ 34 ∷ doubled bs) (b ∷ doubled bs)

-- it holds a comma, a quote, or a byte of a line end
abbrev pub must_quote : List ℕ → Bool
must_quote = any (λ b. is_comma b || (is_quote b || (is_line_feed b || is_return b)))

abbrev pub name_bytes : List ℕ → List ℕ
name_bytes name = cond (must_quote name) ((34 ∷ []) ++ doubled name ++ (34 ∷ [])) name

-- the name that bytes say: where `double` is not 0, each two quotes are one
abbrev pub name_of : ℕ → List ℕ → List ℕ
name_of double bytes = cond (eqb double 0) bytes (halved bytes)

-- a line: the trip's name, start, end, headway and exact_times
abbrev pub line_bytes : List ℕ → ℕ → ℕ → ℕ → ℕ → List ℕ
line_bytes name start end headway exact =
    name_bytes name ++ (44 ∷ []) ++ time_bytes start ++ (44 ∷ []) ++ time_bytes end ++ (44 ∷ []) ++ decimal headway ++ (44 ∷ (48 + exact) ∷ 10 ∷ [])

-- ── what is lent: how many windows there are, the bytes in which their names stand, and the rows of the windows ──
module _ (w : Windows) where
  abbrev pub start_at : ℕ → ℤ
  start_at i = get_or w.starts i (pos 0)

  abbrev pub end_at : ℕ → ℤ
  end_at i = get_or w.ends i (pos 0)

  abbrev pub headway_given : ℕ → ℤ
  headway_given i = get_or w.headways i (pos 0)

  abbrev pub exact_given : ℕ → ℕ
  exact_given i = nat w.exacts i

module _ (text : List ℕ) (w : Windows) where
  -- the bytes of a name as they stand there, and the name
  abbrev pub standing : ℕ → List ℕ
  standing i = take (nat w.name_lengths i) (drop (nat w.name_places i) text)

  abbrev pub name_at : ℕ → List ℕ
  name_at i = name_of (nat w.name_doubled i) (standing i)

  -- a window's line in the file
  abbrev pub window_bytes : ℕ → List ℕ
  window_bytes i = line_bytes (name_at i) (nat_abs (start_at w i)) (nat_abs (end_at w i)) (nat_abs (headway_given w i)) (exact_given w i)

-- and the first one
abbrev pub head_bytes : List ℕ
head_bytes = trip_id ++ (44 ∷ []) ++ start_time ++ (44 ∷ []) ++ end_time ++ (44 ∷ []) ++ headway_secs ++ (44 ∷ []) ++ exact_times ++ (10 ∷ [])

module _ (count : ℕ) (text : List ℕ) (w : Windows) where
  unfoldable pub file_bytes : List ℕ
  file_bytes = head_bytes ++ joined (window_bytes text w) count

  -- ── the verdict: the place is a window's, counted from 0 ──
  -- 1: every row has a place for each window, nothing is asked of lines; and a window's place is a number of 31 bits
  abbrev pub rows_lent : Bool
  rows_lent =
      every (
      leb count 2147483647 ∷ leb count (length w.name_places) ∷ leb count (length w.name_lengths) ∷ leb count (length w.name_doubled) ∷ leb count (length w.starts)
      ∷ leb count (length w.ends) ∷ leb count (length w.headways) ∷ leb count (length w.exacts) ∷ [])

  -- 4: where quotes are said to stand double, each does
  abbrev pub doubled_at : ℕ → Bool
  doubled_at i = eqb (nat w.name_doubled i) 0 || doubled_from false (standing text w i)

  -- 5: both times are 0 or more
  abbrev pub times_at : ℕ → Bool
  times_at i = le_z (pos 0) (start_at w i) && le_z (pos 0) (end_at w i)

  -- 6: the headway is above 0
  abbrev pub headway_good_at : ℕ → Bool
  headway_good_at i = lt_z (pos 0) (headway_given w i)

  -- 7: exact_times is 0 or 1
  abbrev pub exact_good_at : ℕ → Bool
  exact_good_at i = leb (exact_given w i) 1

  -- 8: the name has a byte, and stands among the lent bytes
  abbrev pub named_at : ℕ → Bool
  named_at i = ltb 0 (nat w.name_lengths i) && leb (nat w.name_places i + nat w.name_lengths i) (length text)

  -- 9: the buffer has room for the file, which is no longer than a file that is read
  abbrev pub room_in : List ℕ → Bool
  room_in buffer = leb (length file_bytes) (min (length buffer) 2147483647)

  abbrev pub write_lines : List ℕ → List Line
  write_lines buffer =
      whole 1 0 rows_lent ∷ places 4 count doubled_at ∷ places 5 count times_at ∷ places 6 count headway_good_at ∷ places 7 count exact_good_at
      ∷ places 8 count named_at ∷ whole 9 0 (room_in buffer) ∷ []

  unfoldable pub write_verdict : List ℕ → Verdict
  write_verdict buffer = by_lines (write_lines buffer) accepted

-- ── the call ──
-- what it leaves: the answer, and the buffer
pub record WriteLeft : Type 0 where
  pub answer : Result ℕ Refusal
  pub buffer : List ℕ

abbrev pub left_by_writing : Result ℕ Refusal → List ℕ → WriteLeft
left_by_writing answer buffer = record { answer = answer; buffer = buffer }

unfoldable pub write_frequencies : ℕ → List ℕ → Windows → List ℕ → WriteLeft
write_frequencies count text w buffer =
    let v = write_verdict count text w buffer in let file = file_bytes count text w in
    left_by_writing (carried_by v (length file)) (leaves v (file ++ drop (length file) buffer) buffer)

-- what a caller has at exit; `stated` is the contract's equation
pub record WriteOutcome (count : ℕ) (text : List ℕ) (w : Windows) (lent : List ℕ) : Type 0 where
  pub answer : Result ℕ Refusal
  pub buffer : List ℕ
  pub stated : left_by_writing answer buffer ≡ write_frequencies count text w lent
