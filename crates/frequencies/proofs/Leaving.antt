-- A refusal leaves what was lent, an acceptance the windows of the rows; both are what reading the file leaves. Assumes nothing.
use Prim.Native.Nat.{ℕ}
use native.Mathlib.Omega.{arith}
use mathlib.Core.Bool.{Bool, true, false, ◌&&◌}
use mathlib.Core.List.{List}
use mathlib.Core.Path.{◌≡◌, refl, ap, ap₂, sym, ◌∙◌}
use lib.Dec.{leb}
use lib.ListN.{length, take}
use borrow.Author.Tests.{leb-true}
use Rattle.paper.specs.Checks.{accepted, leaves}
use Rattle.paper.proofs.Lists.{each, and_right}
use Rattle.frequencies.specs.Csv.{Row, rows_of}
use Rattle.frequencies.specs.Reading.{Windows, room_for, windows_of, columns_of, header, window_rows, read_fits, read_verdict, carried_by, left_by_reading, read_frequencies}
use Rattle.frequencies.specs.Heading.{columns_in}
use Rattle.frequencies.specs.Scan.{rows_from}
use Rattle.frequencies.specs.Filling.{Room}
use Rattle.frequencies.specs.Deciding.{Least, counted, verdict_of, FileRead, FileJudged}
use Rattle.std.specs.Prelude.{Result, Ok, Err}
use Rattle.tables.specs.declared.Refusal.{Refusal}
use Rattle.frequencies.specs.declared.verdict.Judgement.{Judgement}
use Rattle.tables.proofs.Answered.{accepted-is, refused-is}

-- ── the verdict by the answer ──
fits-is : (fits : Bool) (h : Row) (rs : List Row) → verdict_of fits h rs ≡ accepted → fits ≡ true
fits-is true h rs e = refl
fits-is false h rs e = let z : ◌≡◌ {A = ℕ} 0 1 = cc in absurd (omega arith)

-- ── the rows that are lent ──
pub room-is : (k : ℕ) (w : Windows) → room_for k w ≡ true → Room k w
room-is k w e =
    let t = each _ e in
    record {
      name-places = leb-true k (length w.name_places) t.0;
      name-lengths = leb-true k (length w.name_lengths) t.1.0;
      name-doubled = leb-true k (length w.name_doubled) t.1.1.0;
      starts = leb-true k (length w.starts) t.1.1.1.0;
      ends = leb-true k (length w.ends) t.1.1.1.1.0;
      headways = leb-true k (length w.headways) t.1.1.1.1.1.0;
      exacts = leb-true k (length w.exacts) t.1.1.1.1.1.1.0;
      lines = leb-true k (length w.lines) t.1.1.1.1.1.1.1.0;
    }

-- ── what reading leaves ──
module _ (bytes : List ℕ) (w : Windows) {room : ℕ}
    (least : Least room (length w.name_places) (length w.name_lengths) (length w.name_doubled) (length w.starts) (length w.ends) (length w.headways)
    (length w.exacts) (length w.lines)) (r : Result Judgement Refusal) (f : FileJudged bytes room r) where
  abbrev fits : Bool
  fits = leb (length bytes) 2147483647 && leb (length (window_rows bytes)) room

  verdict-same : verdict_of fits (header bytes) (window_rows bytes) ≡ read_verdict bytes w
  unfolding read_verdict rows_of
  verdict-same = ap (λ b. verdict_of (leb (length bytes) 2147483647 && b) (header bytes) (window_rows bytes)) (least.so (length (window_rows bytes)))

  answer-is : counted r ≡ carried_by (read_verdict bytes w) (length (window_rows bytes))
  answer-is = f.answer ∙ ap (λ v. carried_by v (length (window_rows bytes))) verdict-same

  pub read-refused : {x : Refusal} → r ≡ Err x → left_by_reading (Err x) w ≡ read_frequencies bytes w
  unfolding read_frequencies
  read-refused {x} e =
      let v = refused-is (length (window_rows bytes)) x (read_verdict bytes w) (sym answer-is ∙ ap counted e) in
      ap₂ left_by_reading (sym (ap counted e) ∙ answer-is) (sym (ap (λ v. leaves v (windows_of (columns_of (header bytes)) (window_rows bytes) w) w) v))

  module _ {j : Judgement} (e : r ≡ Ok j) where
    good : read_verdict bytes w ≡ accepted
    good = accepted-is (length (window_rows bytes)) j.count (read_verdict bytes w) (sym answer-is ∙ ap counted e)

    both-fit : read_fits bytes w ≡ true
    both-fit = ap (leb (length bytes) 2147483647 &&◌) (sym (least.so (length (window_rows bytes)))) ∙ fits-is fits (header bytes) (window_rows bytes) (verdict-same ∙ good)

    pub read-file : FileRead bytes j
    read-file = f.read j e

    pub read-room : Room (length (rows_from (take j.end bytes) j.next)) w
    read-room =
        rw (← read-file.rows)
        (room-is (length (window_rows bytes)) w (and_right (leb (length bytes) 2147483647) (room_for (length (window_rows bytes)) w) both-fit))

    pub read-accepted : {v : Windows} → v ≡ windows_of (columns_in j.columns) (rows_from (take j.end bytes) j.next) w
        → left_by_reading (Ok j.count) v ≡ read_frequencies bytes w
    unfolding read_frequencies
    read-accepted h =
        ap₂ left_by_reading (sym (ap counted e) ∙ answer-is)
        (h ∙ ap₂ (λ c rs. windows_of c rs w) read-file.columns (sym read-file.rows)
        ∙ sym (ap (λ v. leaves v (windows_of (columns_of (header bytes)) (window_rows bytes) w) w) good))
