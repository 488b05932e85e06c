-- What the bytes of a field say, by the GTFS Schedule Reference: a time, a headway, exact_times, and the fields that a header names. Assumes nothing.
use Rattle.std.specs.Prelude.{ℕ, zero, suc, ◌+◌, ◌-◌, ◌*◌, Bool, true, false, cond, ◌&&◌, List, [], ◌∷◌, eqb, leb, ltb, ℤ, pos, length, take, drop}
use Rattle.paper.specs.Lists.{all, every, between, tally, nat}
use Rattle.paper.specs.Formula.{blank}
use Rattle.frequencies.specs.Csv.{Field, body, Row}

-- ── numbers ──
abbrev pub is_digit : ℕ → Bool
is_digit b = between 48 b 57

abbrev pub is_colon : ℕ → Bool
is_colon = eqb 58

-- the number that decimal digits say behind `front`, which was said before them
abbrev pub number_from : ℕ → List ℕ → ℕ
number_from front [] = front
number_from front (d ∷ ds) = number_from (10 * front + (d - 48)) ds

abbrev pub number : List ℕ → ℕ
number = number_from 0

-- a number that a value can be, or blank
abbrev pub as_value : Bool → ℕ → ℤ
as_value good n = cond (good && leb n 2147483647) (pos n) blank

-- ── a time: hours of one digit or more, minutes and seconds of two, from 00 to 59 ──
-- the two digits from place k on, the first of them at most 5
abbrev pub sixtieth : List ℕ → ℕ → Bool
sixtieth bs k = between 48 (nat bs k) 53 && is_digit (nat bs (suc k))

-- the seconds since noon minus 12 hours of the day of service, or blank where the bytes are no time, or one that no value can be
unfoldable pub time : List ℕ → ℤ
time bs =
    let k = length bs - 6 in
    as_value (
    every (
    ltb 6 (length bs) ∷ all is_digit (take k bs) ∷ is_colon (nat bs k) ∷ sixtieth bs (k + 1) ∷ is_colon (nat bs (k + 3)) ∷ sixtieth bs (k + 4) ∷ []))
    (3600 * number (take k bs) + 60 * number (take 2 (drop (k + 1) bs)) + number (take 2 (drop (k + 4) bs)))

-- ── a headway: a whole number of seconds above 0 ──
unfoldable pub headway : List ℕ → ℤ
headway bs = as_value (all is_digit bs && ltb 0 (number bs)) (number bs)

-- ── exact_times: nothing or 0, 1, or neither, which is 2 ──
unfoldable pub exact : List ℕ → ℕ
exact [] = 0
exact (b ∷ []) = cond (eqb b 48) 0 (cond (eqb b 49) 1 2)
exact (b ∷ c ∷ bs) = 2

-- ── the header ──
-- `trip_id`, `start_time`, `end_time`, `headway_secs`, `exact_times`
abbrev pub trip_id : List ℕ
trip_id = 116 ∷ 114 ∷ 105 ∷ 112 ∷ 95 ∷ 105 ∷ 100 ∷ []

abbrev pub start_time : List ℕ
start_time = 115 ∷ 116 ∷ 97 ∷ 114 ∷ 116 ∷ 95 ∷ 116 ∷ 105 ∷ 109 ∷ 101 ∷ []

abbrev pub end_time : List ℕ
end_time = 101 ∷ 110 ∷ 100 ∷ 95 ∷ 116 ∷ 105 ∷ 109 ∷ 101 ∷ []

abbrev pub headway_secs : List ℕ
headway_secs = 104 ∷ 101 ∷ 97 ∷ 100 ∷ 119 ∷ 97 ∷ 121 ∷ 95 ∷ 115 ∷ 101 ∷ 99 ∷ 115 ∷ []

abbrev pub exact_times : List ℕ
exact_times = 101 ∷ 120 ∷ 97 ∷ 99 ∷ 116 ∷ 95 ∷ 116 ∷ 105 ∷ 109 ∷ 101 ∷ 115 ∷ []

-- two lists of bytes are the same
abbrev pub same : List ℕ → List ℕ → Bool
same [] [] = true
same [] (y ∷ ys) = false
same (x ∷ xs) [] = false
same (x ∷ xs) (y ∷ ys) = eqb x y && same xs ys

-- a field names this one
abbrev pub names : List ℕ → Field → Bool
names name f = same (body f.raw) name

-- the place of the first field that does, or how many fields there are
abbrev pub column : List ℕ → List Field → ℕ
column name [] = zero
column name (f ∷ fs) = cond (names name f) zero (suc (column name fs))

-- how many do
abbrev pub named : List ℕ → List Field → ℕ
named name fs = tally (names name) fs

-- each required field is named once, and exact_times at most once
abbrev pub header_good : Row → Bool
header_good h = let fs = h.fields in
    every (
    eqb (named trip_id fs) 1 ∷ eqb (named start_time fs) 1 ∷ eqb (named end_time fs) 1 ∷ eqb (named headway_secs fs) 1 ∷ leb (named exact_times fs) 1 ∷ [])
