-- What was read can be written: each check of the writer asks what a check of the reader found, and a name stands where the reader found it. Assumes nothing.
use Prim.Native.Nat.{ℕ, zero, suc, ◌+◌, ◌-◌, ◌*◌, ◌≤◌, ◌<◌}
use native.Mathlib.Omega.{arith}
use mathlib.Core.Bool.{Bool, true, false, cond, not, ◌&&◌, ◌||◌, true≢false}
use mathlib.Core.List.{List, [], ◌∷◌, ◌++◌, map}
use mathlib.Core.Path.{◌≡◌, refl, ap₂, ◌∙◌}
use lib.Dec.{eqb, leb, ltb}
use lib.IntN.{ℤ, pos}
use lib.ListN.{length, get_or, take, drop, length-append, length-map}
use borrow.Author.Tests.{leb-true, ltb-true, le-leb, lt-ltb, not-true}
use Rattle.integers.specs.Integers.{eq_z}
use Rattle.paper.specs.Lists.{any, all, every, nat}
use Rattle.paper.specs.Formula.{blank}
use Rattle.paper.proofs.Lists.{and_left, and_right, all_yes, all-at}
use Rattle.frequencies.specs.Csv.{is_quote, Field, field, doubled_from, quotes_right, Row, row, rows_of}
use Rattle.frequencies.specs.Values.{is_digit, is_colon, number, as_value, sixtieth, time, headway}
use Rattle.frequencies.specs.Reading.{
  Columns,
  columns_of,
  field_in,
  body_in,
  start_of,
  end_of,
  headway_of,
  exact_of,
  name_place_of,
  name_length_of,
  name_doubled_of,
  times_good,
  headway_good,
  exact_good,
  name_good,
  quotes_good,
  Windows,
  room_for,
  laid_over,
  windows_of,
  header,
  window_rows,
}
use Rattle.frequencies.specs.Writing.{standing, start_at, end_at, headway_given, exact_given, doubled_at, times_at, headway_good_at, exact_good_at, named_at, room_in}
use Rattle.frequencies.specs.Laws.{ReadIsWritten}
use Rattle.frequencies.proofs.Quoted.{body-doubled}
use Rattle.frequencies.proofs.Standing.{Stands, rows-stand, body-stands, within, windows-few}
use Rattle.frequencies.proofs.Accepted.{ReadKnown, WriteKnown, was_read, write-answer}

-- ── rows that were filled ──
laid-at : {A B : Type 0} (f : A → B) (xs : List A) (before : List B) (i : ℕ) (d : A) (d' : B) → i < length xs → get_or (laid_over f xs before) i d' ≡ f (get_or xs i d)
laid-at {A} {B} f xs before = go xs (drop (length xs) before)
  where
    go : (ys : List A) (rest : List B) (i : ℕ) (d : A) (d' : B) → i < length ys → get_or (map f ys ++ rest) i d' ≡ f (get_or ys i d)
    go [] rest i d d' l = absurd (omega arith)
    go (y ∷ ys) rest zero d d' l = refl
    go (y ∷ ys) rest (suc i) d d' l = go ys rest i d d' (omega arith)

laid-long : {A B : Type 0} (f : A → B) (xs : List A) (before : List B) → leb (length xs) (length (laid_over f xs before)) ≡ true
laid-long f xs before = le-leb (length xs) (length (laid_over f xs before)) (omega (arith, length-append (map f xs) (drop (length xs) before), length-map xs f))

-- ── values that were read ──
-- one that is not blank
record Valued (good : Bool) (n : ℕ) (z : ℤ) : Type 0 where
  is : z ≡ pos n
  small : n ≤ 2147483647
  holds : good ≡ true

valued : (good : Bool) (n : ℕ) → eq_z (as_value good n) blank ≡ false → Valued good n (as_value good n)
valued false n e = absurd (true≢false e)
valued true n e = go (leb n 2147483647) refl e
  where
    go : (b : Bool) → leb n 2147483647 ≡ b → eq_z (cond b (pos n) blank) blank ≡ false → Valued true n (cond b (pos n) blank)
    go true q f = record { is = refl; small = leb-true n 2147483647 q; holds = refl }
    go false q f = absurd (true≢false f)

-- a number that a lent row can hold, and how large it is at least
pub record Spoken (least : ℕ) (z : ℤ) : Type 0 where
  pub value : ℕ
  pub is : z ≡ pos value
  pub above : least ≤ value
  pub small : value ≤ 2147483647

as-spoken : (good : Bool) (n : ℕ) → eq_z (as_value good n) blank ≡ false → Spoken 0 (as_value good n)
as-spoken good n e = let v = valued good n e in record { value = n; is = v.is; above = omega arith; small = v.small }

pub time-spoken : (bs : List ℕ) → eq_z (time bs) blank ≡ false → Spoken 0 (time bs)
unfolding time
time-spoken bs e =
    let k = length bs - 6 in
    as-spoken (
    every (
    ltb 6 (length bs) ∷ all is_digit (take k bs) ∷ is_colon (nat bs k) ∷ sixtieth bs (k + 1) ∷ is_colon (nat bs (k + 3)) ∷ sixtieth bs (k + 4) ∷ []))
    (3600 * number (take k bs) + 60 * number (take 2 (drop (k + 1) bs)) + number (take 2 (drop (k + 4) bs))) e

pub headway-spoken : (bs : List ℕ) → eq_z (headway bs) blank ≡ false → Spoken 1 (headway bs)
unfolding headway
headway-spoken bs e =
    let v = valued (all is_digit bs && ltb 0 (number bs)) (number bs) e in
    record { value = number bs; is = v.is; above = ltb-true 0 (number bs) (and_right (all is_digit bs) (ltb 0 (number bs)) v.holds); small = v.small }

-- ── quotes of any field of any row ──
all-anywhere : {A : Type 0} (p : A → Bool) (xs : List A) (d : A) (i : ℕ) → all p xs ≡ true → p d ≡ true → p (get_or xs i d) ≡ true
all-anywhere p [] d i e f = f
all-anywhere p (x ∷ xs) d zero e f = and_left (p x) (all p xs) e
all-anywhere p (x ∷ xs) d (suc i) e f = all-anywhere p xs d i (and_right (p x) (all p xs) e) f

-- ── the windows ──
module _ (bytes : List ℕ) where
  abbrev row_at : ℕ → Row
  row_at i = get_or (window_rows bytes) i (row 1 [])

  abbrev cols : Columns
  cols = columns_of (header bytes)

  window-stands : (i k : ℕ) → Stands bytes (field_in (row_at i) k)
  unfolding rows_of
  window-stands i k = rows-stand bytes (suc i) k

  window-quotes : all quotes_good (rows_of bytes) ≡ true → (i k : ℕ) → quotes_right (field_in (row_at i) k).raw ≡ true
  unfolding rows_of
  window-quotes e i k = all-anywhere (λ (f : Field). quotes_right f.raw) (row_at i).fields (field 0 []) k (all-anywhere quotes_good (rows_of bytes) (row 1 []) (suc i) e refl) refl

  module _ (lent : Windows) (known : ReadKnown bytes lent) where
    abbrev filled : Windows
    filled = windows_of cols (window_rows bytes) lent

    -- each window by its row
    pub record Told (i : ℕ) : Type 0 where
      pub place : nat filled.name_places i ≡ name_place_of cols (row_at i)
      pub size : nat filled.name_lengths i ≡ name_length_of cols (row_at i)
      pub double : nat filled.name_doubled i ≡ name_doubled_of cols (row_at i)
      pub start : start_at filled i ≡ start_of cols (row_at i)
      pub end : end_at filled i ≡ end_of cols (row_at i)
      pub headway : headway_given filled i ≡ headway_of cols (row_at i)
      pub exact : exact_given filled i ≡ exact_of cols (row_at i)
      pub name : standing bytes filled i ≡ body_in (row_at i) cols.trip

    pub told : (i : ℕ) → i < length (window_rows bytes) → Told i
    told i l =
        let p = laid-at (name_place_of cols) (window_rows bytes) lent.name_places i (row 1 []) 0 l in
        let s = laid-at (name_length_of cols) (window_rows bytes) lent.name_lengths i (row 1 []) 0 l in
        record {
          place = p;
          size = s;
          double = laid-at (name_doubled_of cols) (window_rows bytes) lent.name_doubled i (row 1 []) 0 l;
          start = laid-at (start_of cols) (window_rows bytes) lent.starts i (row 1 []) (pos 0) l;
          end = laid-at (end_of cols) (window_rows bytes) lent.ends i (row 1 []) (pos 0) l;
          headway = laid-at (headway_of cols) (window_rows bytes) lent.headways i (row 1 []) (pos 0) l;
          exact = laid-at (exact_of cols) (window_rows bytes) lent.exacts i (row 1 []) 0 l;
          name = ap₂ (λ n a. take n (drop a bytes)) s p ∙ body-stands bytes (field_in (row_at i) cols.trip) (window-stands i cols.trip);
        }

    -- what the checks found of it
    pub record Found (i : ℕ) : Type 0 where
      pub start : Spoken 0 (start_at filled i)
      pub end : Spoken 0 (end_at filled i)
      pub headway : Spoken 1 (headway_given filled i)
      pub exact : exact_given filled i ≤ 1
      pub named : 0 < length (body_in (row_at i) cols.trip)

    pub found : (i : ℕ) → i < length (window_rows bytes) → Found i
    found i l =
        let t = told i l in let r = row_at i in
        let both = all-at (times_good cols) (window_rows bytes) known.times i (row 1 []) l in
        record {
          start = rw t.start (time-spoken (body_in r cols.start) (not-true (eq_z (start_of cols r) blank) (and_left (not (eq_z (start_of cols r) blank)) (not (eq_z (end_of cols r) blank)) both)));
          end = rw t.end (time-spoken (body_in r cols.end) (not-true (eq_z (end_of cols r) blank) (and_right (not (eq_z (start_of cols r) blank)) (not (eq_z (end_of cols r) blank)) both)));
          headway = rw t.headway (headway-spoken (body_in r cols.headway) (not-true (eq_z (headway_of cols r) blank) (all-at (headway_good cols) (window_rows bytes) known.headways i (row 1 []) l)));
          exact = rw t.exact (leb-true (exact_of cols r) 1 (all-at (exact_good cols) (window_rows bytes) known.exacts i (row 1 []) l));
          named = ltb-true 0 (name_length_of cols r) (all-at (name_good cols) (window_rows bytes) known.names i (row 1 []) l);
        }

    -- ── the writer's checks ──
    module _ (i : ℕ) (l : i < length (window_rows bytes)) where
      t : Told i
      t = told i l

      f : Found i
      f = found i l

      doubled-good : doubled_at (length (window_rows bytes)) bytes filled i ≡ true
      doubled-good = rw (t.double, t.name) (go (any is_quote (body_in (row_at i) cols.trip)) refl)
        where
          go : (q : Bool) → any is_quote (body_in (row_at i) cols.trip) ≡ q → (eqb (cond q 1 0) 0 || doubled_from false (body_in (row_at i) cols.trip)) ≡ true
          go true e = body-doubled (field_in (row_at i) cols.trip).raw (window-quotes known.quotes i cols.trip) e
          go false e = refl

      times-good : times_at (length (window_rows bytes)) bytes filled i ≡ true
      times-good = rw (f.start.is, f.end.is) (ap₂ ◌&&◌ (le-leb 0 f.start.value (omega arith)) (le-leb 0 f.end.value (omega arith)))

      headway-good : headway_good_at (length (window_rows bytes)) bytes filled i ≡ true
      headway-good = rw f.headway.is (lt-ltb 0 f.headway.value f.headway.above)

      exact-good : exact_good_at (length (window_rows bytes)) bytes filled i ≡ true
      exact-good = le-leb (exact_given filled i) 1 f.exact

      named-good : named_at (length (window_rows bytes)) bytes filled i ≡ true
      named-good =
          let r = row_at i in let stands = body-stands bytes (field_in r cols.trip) (window-stands i cols.trip) in
          rw (t.place, t.size)
          (ap₂ ◌&&◌ (lt-ltb 0 (name_length_of cols r) f.named)
          (le-leb (name_place_of cols r + name_length_of cols r) (length bytes) (within bytes (body_in r cols.trip) (name_place_of cols r) stands f.named)))

    pub can_write : (buffer : List ℕ) → room_in (length (window_rows bytes)) bytes filled buffer ≡ true → WriteKnown (length (window_rows bytes)) bytes filled buffer
    can_write buffer room =
        let rs = window_rows bytes in
        record {
          lent = all_yes _ (
            le-leb (length rs) 2147483647 (omega (arith, windows-few bytes, leb-true (length bytes) 2147483647 (and_left (leb (length bytes) 2147483647) (room_for (length rs) lent) known.fits))),
            (
              laid-long (name_place_of cols) rs lent.name_places,
              (
                laid-long (name_length_of cols) rs lent.name_lengths,
                (
                  laid-long (name_doubled_of cols) rs lent.name_doubled,
                  (
                    laid-long (start_of cols) rs lent.starts,
                    (
                      laid-long (end_of cols) rs lent.ends,
                      (
                        laid-long (headway_of cols) rs lent.headways,
                        (laid-long (exact_of cols) rs lent.exacts, tt),
                      ),
                    ),
                  ),
                ),
              ),
            ),
          );
          doubled = doubled-good;
          times = times-good;
          headways = headway-good;
          exacts = exact-good;
          names = named-good;
          room = room;
        }

pub read-is-written : ReadIsWritten
read-is-written bytes lent o count e buffer room p =
    let k = was_read bytes lent o count e in
    write-answer count bytes o.windows buffer p
    (rw (k.filled, ← k.many) (can_write bytes lent k.known buffer (rw (k.filled, ← k.many) at room)))
