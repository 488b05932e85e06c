-- The verdict by what was found of the header and the rows is the verdict of the file. Assumes nothing.
use Prim.Native.Nat.{ℕ, zero, suc, ◌-◌, ◌≤◌, ◌<◌, min}
use native.Mathlib.Omega.{arith}
use mathlib.Core.Bool.{Bool, true, false, ◌&&◌}
use mathlib.Core.List.{List, [], ◌∷◌, map}
use mathlib.Core.Path.{◌≡◌, refl, ap, ap₂, sym, subst, ◌∙◌}
use lib.Dec.{leb}
use lib.ListN.{length, take, drop}
use lib.Seq.{length-take-le, take-nil}
use borrow.Author.Tests.{leb-true, leb-false, le-leb, lt-leb}
use Rattle.paper.specs.Lists.{every}
use Rattle.paper.specs.Checks.{accepted, require}
use Rattle.frequencies.specs.Csv.{Row, Rest, row_of, all_rows, front, split, mark_length, rows_of}
use Rattle.frequencies.specs.Reading.{width_good, quotes_good, times_good, headway_good, exact_good, name_good, check_rows, carried_by}
use Rattle.frequencies.specs.Reading as reading
use Rattle.frequencies.specs.Ends.{Trimmed}
use Rattle.frequencies.specs.Scan.{Scannable}
use Rattle.frequencies.specs.Heading.{columns_in, Headed}
use Rattle.frequencies.specs.Judging.{first_bad, by_line, line_small, Tested, rows_left, Started, JudgedAll}
use Rattle.frequencies.specs.Deciding.{Least, decided, verdict_of, whole_at, BodyJudged, FileJudged}
use Rattle.std.specs.Prelude.{Option, Some, None, IfSome, Result, Ok, Err}
use Rattle.tables.specs.Answers.{refusal}
use Rattle.tables.specs.declared.Refusal.{Refusal}
use Rattle.frequencies.specs.declared.header.Header.{Header}
use Rattle.frequencies.specs.declared.fields.Place.{Place}
use Rattle.frequencies.specs.declared.judge.Judged.{Judged}
use Rattle.frequencies.specs.declared.verdict.Judgement.{Judgement}
use Rattle.frequencies.proofs.Scanning.{split-line}
use Rattle.frequencies.proofs.Checking.{checked-start, checked-next}

-- ── room ──
both-room : (k a b : ℕ) → leb k (min a b) ≡ (leb k a && leb k b)
both-room k a b = go (leb k a) refl (leb k b) refl
  where
    go : (x : Bool) → leb k a ≡ x → (y : Bool) → leb k b ≡ y → leb k (min a b) ≡ (x && y)
    go true p true q = let u = leb-true k a p in let v = leb-true k b q in le-leb k (min a b) (omega arith)
    go true p false q = let v = leb-false k b q in lt-leb k (min a b) (omega arith)
    go false p y q = let u = leb-false k a p in lt-leb k (min a b) (omega arith)

abbrev least_of : ℕ → List ℕ → ℕ
least_of a [] = a
least_of a (b ∷ ns) = min a (least_of b ns)

room-all : (k a : ℕ) (ns : List ℕ) → leb k (least_of a ns) ≡ every (map (leb k) (a ∷ ns))
unfolding every
room-all k a [] = go (leb k a)
  where
    go : (x : Bool) → x ≡ (x && true)
    go true = refl
    go false = refl
room-all k a (b ∷ ns) = both-room k a (least_of b ns) ∙ ap (leb k a &&◌) (room-all k b ns)

pub least-is : (a b c d e f g h : ℕ) → Least (min a (min b (min c (min d (min e (min f (min g h))))))) a b c d e f g h
least-is a b c d e f g h = record { so = λ k. room-all k a (b ∷ c ∷ d ∷ e ∷ f ∷ g ∷ h ∷ []) }

-- ── the header and the rows ──
-- the line of the header, or none
one_line : (b : Bool) → line_small (first_bad None b 1)
one_line true = tt
one_line false = omega arith

ok-same : {A B : Type 0} {x y : A} → ◌≡◌ {A = Result A B} (Ok x) (Ok y) → x ≡ y
ok-same e = cc

rows-decided : {c : reading.Columns} {width : ℕ} {h : Row} {rs : List Row} {j : Judged} → Tested c width (h ∷ rs) rs [] j
    → by_line 3 j.widths (by_line 4 j.quotes (by_line 5 j.times (by_line 6 j.headways (by_line 7 j.exacts (by_line 8 j.names accepted)))))
    ≡ check_rows 3 (width_good width) rs (check_rows 4 quotes_good (h ∷ rs) (check_rows 5 (times_good c) rs
    (check_rows 6 (headway_good c) rs (check_rows 7 (exact_good c) rs (check_rows 8 (name_good c) rs accepted)))))
rows-decided {c} {width} {h} {rs} {j} t =
    let v₈ = by_line 8 j.names accepted in
    let v₇ = by_line 7 j.exacts v₈ in
    let v₆ = by_line 6 j.headways v₇ in
    let v₅ = by_line 5 j.times v₆ in
    let v₄ = by_line 4 j.quotes v₅ in
    t.widths.so 3 v₄ ∙ ap (check_rows 3 (width_good width) rs)
    (t.quotes.so 4 v₅ ∙ ap (check_rows 4 quotes_good (h ∷ rs))
    (t.times.so 5 v₆ ∙ ap (check_rows 5 (times_good c) rs)
    (t.headways.so 6 v₇ ∙ ap (check_rows 6 (headway_good c) rs)
    (t.exacts.so 7 v₈ ∙ ap (check_rows 7 (exact_good c) rs) (t.names.so 8 accepted)))))

module _ (bytes : List ℕ) (mark : ℕ) (h : Header) (s : Headed bytes mark h) where
  abbrev rest : Rest
  rest = split mark 1 front (drop mark bytes)

  -- what is found before the first row behind the header
  abbrev pub start_from : Option ℕ → Judged
  start_from q = record {
    count = 0;
    widths = None;
    quotes = q;
    times = None;
    headways = None;
    exacts = None;
    names = None;
    next = h.next;
  }

  pub body-started : (q : Option ℕ) → q ≡ first_bad None h.right 1 → Started bytes (start_from q)
  body-started q e = record {
    here = go h.next s.here;
    lines = record { widths = tt; quotes = rw e (one_line h.right); times = tt; headways = tt; exacts = tt; names = tt };
  }
    where
      go : (o : Option Place) → IfSome o (λ p. Scannable bytes p.at p.line) → IfSome o (λ p. Scannable bytes p.at p.line × (0 ≤ p.at))
      go None h = tt
      go (Some p) h = (h, omega arith)

  body-tested : (q : Option ℕ) → q ≡ first_bad None h.right 1
      → Tested (columns_in h.columns) h.width (row_of rest ∷ rest.rows) rest.rows (rows_left bytes (start_from q)) (start_from q)
  body-tested q e = subst (λ l. Tested (columns_in h.columns) h.width (row_of rest ∷ rest.rows) rest.rows l (start_from q)) s.rows (record {
    count = omega arith;
    widths = checked-start (width_good h.width) rest.rows;
    quotes = checked-next h.right 1 (checked-start quotes_good (row_of rest ∷ rest.rows)) s.right (split-line front mark 1 (drop mark bytes)) e;
    times = checked-start (times_good (columns_in h.columns)) rest.rows;
    headways = checked-start (headway_good (columns_in h.columns)) rest.rows;
    exacts = checked-start (exact_good (columns_in h.columns)) rest.rows;
    names = checked-start (name_good (columns_in h.columns)) rest.rows;
  })

  module _ (room : ℕ) (q : Option ℕ) (e : q ≡ first_bad None h.right 1) (j : Judged) (a : JudgedAll bytes h.columns h.width (start_from q) j) where
    tested : Tested (columns_in h.columns) h.width (row_of rest ∷ rest.rows) rest.rows [] j
    tested = a.all (row_of rest ∷ rest.rows) rest.rows (body-tested q e)

    count-is : j.count ≡ length rest.rows
    count-is = let k = tested.count in omega arith

    verdict-is : decided h.good room j ≡ verdict_of (leb (length rest.rows) room) (row_of rest) rest.rows
    verdict-is =
        ap (λ v. require 1 0 (leb j.count room) (require 2 1 h.good v)) (rows-decided tested)
        ∙ rw (count-is, s.good, s.columns, s.width, split-line front mark 1 (drop mark bytes))

    pub body-refused : {r : Refusal} → Err r ≡ carried_by (decided h.good room j) j.count → BodyJudged bytes mark room (Err r)
    body-refused k = record { answer = k ∙ ap₂ carried_by verdict-is count-is; read = λ r e. cc }

    pub body-judged : {k : ℕ} → Ok k ≡ carried_by (decided h.good room j) j.count
        → BodyJudged bytes mark room (Ok (record { count = k; columns = h.columns; end = length bytes; next = h.next }))
    body-judged k = record {
      answer = k ∙ ap₂ carried_by verdict-is count-is;
      read = λ r e. rw (← ok-same e) (record { columns = s.columns; end = refl; rows = s.rows; here = s.here });
    }

-- ── the file ──
drop-take : (m e : ℕ) (l : List ℕ) → drop m (take e l) ≡ take (e - m) (drop m l)
drop-take zero e l = let z : e - 0 ≡ e = omega arith in rw z
drop-take (suc m) zero l = let z : 0 - suc m ≡ 0 = omega arith in rw z
drop-take (suc m) (suc e) [] = sym (take-nil (suc e - suc m))
drop-take (suc m) (suc e) (x ∷ l) = let z : suc e - suc m ≡ e - m = omega arith in drop-take m e l ∙ rw z

module _ (bytes : List ℕ) (room : ℕ) where
  pub file-long : 2147483647 < length bytes → FileJudged bytes room (Err (refusal 1 0))
  file-long h = record { answer = rw (lt-leb (length bytes) 2147483647 h); read = λ r e. cc }

  module _ (short : length bytes ≤ 2147483647) {mark end : ℕ} (m : mark ≡ mark_length bytes) (t : Trimmed bytes mark end) where
    end-length : length (take end bytes) ≡ end
    end-length = length-take-le end bytes t.high

    pub file-scannable : Scannable (take end bytes) mark 1
    file-scannable = let l = end-length in let low = t.low in let high = t.high in record { fits = omega arith; small = omega arith; lines = omega arith }

    rows_are : rows_of bytes ≡ all_rows (whole_at (take end bytes) mark room)
    unfolding rows_of
    rows_are = rw (← m) (ap (λ b. all_rows (split mark 1 front b)) (sym t.body ∙ sym (drop-take mark end bytes)))

    pub file-judged : {r : Result Judgement Refusal} → BodyJudged (take end bytes) mark room r → FileJudged bytes room r
    file-judged {r} b = record {
      answer = rw (rows_are, le-leb (length bytes) 2147483647 short) b.answer;
      read = λ j e. let d = b.read j e in let same : j.end ≡ end = d.end ∙ end-length in record {
        columns = rw rows_are d.columns;
        end = let high = t.high in omega arith;
        rows = rw (rows_are, same) d.rows;
        here = rw same d.here;
      };
    }
