-- A call is accepted just where every check was passed: the checks stand in a chain that stops at the first that fails. Assumes nothing.
use Prim.Native.Nat.{ℕ, ◌<◌}
use mathlib.Core.Bool.{Bool, true, false, cond, ◌&&◌, false≢true}
use mathlib.Core.List.{List, [], ◌∷◌, ◌++◌}
use mathlib.Core.Path.{◌≡◌, refl, ap, sym, ◌∙◌}
use lib.ListN.{length, take, drop}
use lib.Seq.{take_at}
use Rattle.paper.specs.Lists.{all}
use Rattle.paper.specs.Checks.{Verdict, accepted, refused, check, require, leaves}
use Rattle.paper.proofs.Verdicts.{refused-not, check-next, check-rest, check-held, require-next, require-rest, require-held}
use Rattle.frequencies.specs.Csv.{Row, rows_of}
use Rattle.frequencies.specs.Values.{header_good}
use Rattle.frequencies.specs.Reading.{
  columns_of,
  times_good,
  headway_good,
  exact_good,
  name_good,
  width_good,
  quotes_good,
  Windows,
  windows_of,
  check_rows,
  header,
  window_rows,
  read_fits,
  read_verdict,
  ReadLeft,
  carried_by,
  read_frequencies,
  ReadOutcome,
}
use Rattle.frequencies.specs.Writing.{
  file_bytes,
  rows_lent,
  doubled_at,
  times_at,
  headway_good_at,
  exact_good_at,
  named_at,
  room_in,
  write_verdict,
  WriteLeft,
  write_frequencies,
  WriteOutcome,
}
use Rattle.std.specs.Prelude.{Ok}
use Rattle.tables.proofs.Answered.{accepted-is, accepted-as}

-- ── one check over all rows ──
module _ (number : ℕ) (good : Row → Bool) where
  rows_next : (rs : List Row) (next : Verdict) → all good rs ≡ true → check_rows number good rs next ≡ next
  rows_next [] next h = refl
  rows_next (r ∷ rs) next h = go (good r) h (rows_next rs next)
    where
      go : (b : Bool) → (b && all good rs) ≡ true → (all good rs ≡ true → check_rows number good rs next ≡ next)
          → cond b (check_rows number good rs next) (refused number r.line) ≡ next
      go true e more = more e
      go false e more = absurd (false≢true e)

  rows-rest : (rs : List Row) (next : Verdict) → check_rows number good rs next ≡ accepted → next ≡ accepted
  rows-rest [] next h = h
  rows-rest (r ∷ rs) next h = go (good r) h (rows-rest rs next)
    where
      go : (b : Bool) → cond b (check_rows number good rs next) (refused number r.line) ≡ accepted → (check_rows number good rs next ≡ accepted → next ≡ accepted) → next ≡ accepted
      go true e more = more e
      go false e more = refused-not e

  rows-held : (rs : List Row) (next : Verdict) → check_rows number good rs next ≡ accepted → all good rs ≡ true
  rows-held [] next h = refl
  rows-held (r ∷ rs) next h = go (good r) h (rows-held rs next)
    where
      go : (b : Bool) → cond b (check_rows number good rs next) (refused number r.line) ≡ accepted → (check_rows number good rs next ≡ accepted → all good rs ≡ true) → (b && all good rs) ≡ true
      go true e more = more e
      go false e more = refused-not e

-- ── reading ──
pub record ReadKnown (bytes : List ℕ) (w : Windows) : Type 0 where
  pub fits : read_fits bytes w ≡ true
  pub heads : header_good (header bytes) ≡ true
  pub widths : all (width_good (length (header bytes).fields)) (window_rows bytes) ≡ true
  pub quotes : all quotes_good (rows_of bytes) ≡ true
  pub times : all (times_good (columns_of (header bytes))) (window_rows bytes) ≡ true
  pub headways : all (headway_good (columns_of (header bytes))) (window_rows bytes) ≡ true
  pub exacts : all (exact_good (columns_of (header bytes))) (window_rows bytes) ≡ true
  pub names : all (name_good (columns_of (header bytes))) (window_rows bytes) ≡ true

module _ (bytes : List ℕ) (w : Windows) where
  -- what is left to check behind each check
  abbrev rs : List Row
  rs = window_rows bytes

  abbrev from8 : Verdict
  from8 = check_rows 8 (name_good (columns_of (header bytes))) rs accepted

  abbrev from7 : Verdict
  from7 = check_rows 7 (exact_good (columns_of (header bytes))) rs from8

  abbrev from6 : Verdict
  from6 = check_rows 6 (headway_good (columns_of (header bytes))) rs from7

  abbrev from5 : Verdict
  from5 = check_rows 5 (times_good (columns_of (header bytes))) rs from6

  abbrev from4 : Verdict
  from4 = check_rows 4 quotes_good (rows_of bytes) from5

  abbrev from3 : Verdict
  from3 = check_rows 3 (width_good (length (header bytes).fields)) rs from4

  abbrev from2 : Verdict
  from2 = require 2 (header bytes).line (header_good (header bytes)) from3

  pub read_known : read_verdict bytes w ≡ accepted → ReadKnown bytes w
  unfolding read_verdict
  read_known e =
      let e2 = require-rest 1 0 (read_fits bytes w) from2 e in let e3 = require-rest 2 (header bytes).line (header_good (header bytes)) from3 e2 in
      let e4 = rows-rest 3 (width_good (length (header bytes).fields)) rs from4 e3 in let e5 = rows-rest 4 quotes_good (rows_of bytes) from5 e4 in
      let e6 = rows-rest 5 (times_good (columns_of (header bytes))) rs from6 e5 in let e7 = rows-rest 6 (headway_good (columns_of (header bytes))) rs from7 e6 in
      let e8 = rows-rest 7 (exact_good (columns_of (header bytes))) rs from8 e7 in
      record {
        fits = require-held 1 0 (read_fits bytes w) from2 e;
        heads = require-held 2 (header bytes).line (header_good (header bytes)) from3 e2;
        widths = rows-held 3 (width_good (length (header bytes).fields)) rs from4 e3;
        quotes = rows-held 4 quotes_good (rows_of bytes) from5 e4;
        times = rows-held 5 (times_good (columns_of (header bytes))) rs from6 e5;
        headways = rows-held 6 (headway_good (columns_of (header bytes))) rs from7 e6;
        exacts = rows-held 7 (exact_good (columns_of (header bytes))) rs from8 e7;
        names = rows-held 8 (name_good (columns_of (header bytes))) rs accepted e8;
      }

  pub read-passes : ReadKnown bytes w → read_verdict bytes w ≡ accepted
  unfolding read_verdict
  read-passes k =
      require-next 1 0 (read_fits bytes w) from2 k.fits ∙ require-next 2 (header bytes).line (header_good (header bytes)) from3 k.heads
      ∙ rows_next 3 (width_good (length (header bytes).fields)) rs from4 k.widths ∙ rows_next 4 quotes_good (rows_of bytes) from5 k.quotes
      ∙ rows_next 5 (times_good (columns_of (header bytes))) rs from6 k.times ∙ rows_next 6 (headway_good (columns_of (header bytes))) rs from7 k.headways
      ∙ rows_next 7 (exact_good (columns_of (header bytes))) rs from8 k.exacts ∙ rows_next 8 (name_good (columns_of (header bytes))) rs accepted k.names

-- ── writing ──
pub record WriteKnown (count : ℕ) (text : List ℕ) (w : Windows) (buffer : List ℕ) : Type 0 where
  pub lent : rows_lent count text w ≡ true
  pub doubled : (i : ℕ) → i < count → doubled_at count text w i ≡ true
  pub times : (i : ℕ) → i < count → times_at count text w i ≡ true
  pub headways : (i : ℕ) → i < count → headway_good_at count text w i ≡ true
  pub exacts : (i : ℕ) → i < count → exact_good_at count text w i ≡ true
  pub names : (i : ℕ) → i < count → named_at count text w i ≡ true
  pub room : room_in count text w buffer ≡ true

module _ (count : ℕ) (text : List ℕ) (w : Windows) (buffer : List ℕ) where
  abbrev to9 : Verdict
  to9 = require 9 0 (room_in count text w buffer) accepted

  abbrev to8 : Verdict
  to8 = check 8 count (named_at count text w) to9

  abbrev to7 : Verdict
  to7 = check 7 count (exact_good_at count text w) to8

  abbrev to6 : Verdict
  to6 = check 6 count (headway_good_at count text w) to7

  abbrev to5 : Verdict
  to5 = check 5 count (times_at count text w) to6

  abbrev to4 : Verdict
  to4 = check 4 count (doubled_at count text w) to5

  pub write_known : write_verdict count text w buffer ≡ accepted → WriteKnown count text w buffer
  unfolding write_verdict
  write_known e =
      let e4 = require-rest 1 0 (rows_lent count text w) to4 e in let e5 = check-rest 4 count (doubled_at count text w) to5 e4 in
      let e6 = check-rest 5 count (times_at count text w) to6 e5 in let e7 = check-rest 6 count (headway_good_at count text w) to7 e6 in
      let e8 = check-rest 7 count (exact_good_at count text w) to8 e7 in let e9 = check-rest 8 count (named_at count text w) to9 e8 in
      record {
        lent = require-held 1 0 (rows_lent count text w) to4 e;
        doubled = check-held 4 count (doubled_at count text w) to5 e4;
        times = check-held 5 count (times_at count text w) to6 e5;
        headways = check-held 6 count (headway_good_at count text w) to7 e6;
        exacts = check-held 7 count (exact_good_at count text w) to8 e7;
        names = check-held 8 count (named_at count text w) to9 e8;
        room = require-held 9 0 (room_in count text w buffer) accepted e9;
      }

  pub write-passes : WriteKnown count text w buffer → write_verdict count text w buffer ≡ accepted
  unfolding write_verdict
  write-passes k =
      require-next 1 0 (rows_lent count text w) to4 k.lent ∙ check-next 4 count (doubled_at count text w) to5 k.doubled
      ∙ check-next 5 count (times_at count text w) to6 k.times ∙ check-next 6 count (headway_good_at count text w) to7 k.headways
      ∙ check-next 7 count (exact_good_at count text w) to8 k.exacts ∙ check-next 8 count (named_at count text w) to9 k.names
      ∙ require-next 9 0 (room_in count text w buffer) accepted k.room

-- ── what a caller has of an accepted call ──
counted-accepted : (v : Verdict) (n m : ℕ) → carried_by v n ≡ Ok m → (v ≡ accepted) × (n ≡ m)
counted-accepted v n m e = (accepted-is n m v e, accepted-as n m v e)

pub record WasRead (bytes : List ℕ) (lent : Windows) (windows : Windows) (count : ℕ) : Type 0 where
  pub known : ReadKnown bytes lent
  pub many : length (window_rows bytes) ≡ count
  pub filled : windows ≡ windows_of (columns_of (header bytes)) (window_rows bytes) lent

pub was_read : (bytes : List ℕ) (lent : Windows) (o : ReadOutcome bytes lent) (count : ℕ) → o.answer ≡ Ok count → WasRead bytes lent o.windows count
unfolding read_frequencies
was_read bytes lent o count e =
    let v = read_verdict bytes lent in let (ok, many) = counted-accepted v (length (window_rows bytes)) count (sym (ap (λ (l : ReadLeft). l.answer) o.stated) ∙ e) in
    record {
      known = read_known bytes lent ok;
      many = many;
      filled = ap (λ (l : ReadLeft). l.windows) o.stated ∙ ap (λ v'. leaves v' (windows_of (columns_of (header bytes)) (window_rows bytes) lent) lent) ok;
    }

pub read_answer : (bytes : List ℕ) (lent : Windows) (o : ReadOutcome bytes lent) → ReadKnown bytes lent → o.answer ≡ Ok (length (window_rows bytes))
unfolding read_frequencies
read_answer bytes lent o k = ap (λ (l : ReadLeft). l.answer) o.stated ∙ ap (λ v. carried_by v (length (window_rows bytes))) (read-passes bytes lent k)

pub record WasWritten (count : ℕ) (text : List ℕ) (w : Windows) (lent buffer : List ℕ) (size : ℕ) : Type 0 where
  pub known : WriteKnown count text w lent
  pub many : length (file_bytes count text w) ≡ size
  pub filled : take size buffer ≡ file_bytes count text w

pub was-written : (count : ℕ) (text : List ℕ) (w : Windows) (lent : List ℕ) (o : WriteOutcome count text w lent) (size : ℕ) → o.answer ≡ Ok size
    → WasWritten count text w lent o.buffer size
unfolding write_frequencies
was-written count text w lent o size e =
    let v = write_verdict count text w lent in let file = file_bytes count text w in
    let (ok, many) = counted-accepted v (length file) size (sym (ap (λ (l : WriteLeft). l.answer) o.stated) ∙ e) in
    record {
      known = write_known count text w lent ok;
      many = many;
      filled = ap (take size) (ap (λ (l : WriteLeft). l.buffer) o.stated ∙ ap (λ v'. leaves v' (file ++ drop (length file) lent) lent) ok)
          ∙ take_at file (drop (length file) lent) size many;
    }

pub write-answer : (count : ℕ) (text : List ℕ) (w : Windows) (lent : List ℕ) (o : WriteOutcome count text w lent) → WriteKnown count text w lent
    → o.answer ≡ Ok (length (file_bytes count text w))
unfolding write_frequencies
write-answer count text w lent o k =
    ap (λ (l : WriteLeft). l.answer) o.stated ∙ ap (λ v. carried_by v (length (file_bytes count text w))) (write-passes count text w lent k)
