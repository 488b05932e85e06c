-- What was written is read back: its rows are its lines, each field of a line says what it was written from, and so each check of the reader is passed.
-- Assumes nothing.
use Prim.Native.Nat.{ℕ, ◌+◌, ◌≤◌, ◌<◌, min}
use native.Mathlib.Omega.{arith}
use mathlib.Core.Bool.{Bool, true, false, cond, not, ◌&&◌, ◌||◌}
use mathlib.Core.List.{List, [], ◌∷◌}
use mathlib.Core.Path.{◌≡◌, refl, ap, ap₂, sym, ◌∙◌}
use lib.Dec.{eqb, leb, ltb}
use lib.IntN.{ℤ, pos, negsuc, nat_abs}
use lib.Signed.{lt_z, le_z}
use lib.ListN.{length, get_or, take, drop, length-take, length-drop}
use mir.Syntax.{w32}
use mir.Val.{SFits}
use borrow.Author.Tests.{leb-true, ltb-true, le-leb, lt-ltb}
use Rattle.integers.specs.Integers.{eq_z}
use Rattle.paper.specs.Lists.{any, all, every, nat}
use Rattle.paper.specs.Formula.{blank}
use Rattle.paper.proofs.Lists.{clash, and_left, and_right, all-places}
use Rattle.frequencies.specs.Csv.{is_quote, Field, field, body, halved, doubled_from, quotes_right, Row, row, rows_of}
use Rattle.frequencies.specs.Values.{time, headway, exact, header_good}
use Rattle.frequencies.specs.Reading.{
  Columns,
  columns_of,
  body_in,
  start_of,
  end_of,
  headway_of,
  exact_of,
  times_good,
  headway_good,
  exact_good,
  name_good,
  width_good,
  quotes_good,
  Windows,
  room_for,
  head_of,
  header,
  window_rows,
  ReadOutcome,
}
use Rattle.frequencies.specs.Writing.{start_at, end_at, headway_given, exact_given, standing, name_at, file_bytes}
use Rattle.frequencies.specs.Laws.{SameWindow, Fitting, WrittenIsRead}
use Rattle.std.specs.Prelude.{Ok}
use Rattle.frequencies.proofs.Quoted.{plain-right, plain_body, shown, name_body, name-right, shown-some, shown-back, halved-some}
use Rattle.frequencies.proofs.Spoken.{time-back, headway-back, exact-back, decimal-plain, time-plain, exact-plain}
use Rattle.frequencies.proofs.Runs.{Lined, fields_at, RowOf, plain-apart, name-apart}
use Rattle.frequencies.proofs.WrittenRows.{head_raws, raws, Whole, whole}
use Rattle.frequencies.proofs.Accepted.{ReadKnown, read_answer, WriteKnown, was_read, was-written}
use Rattle.frequencies.proofs.ReadWritten.{told}

-- ── a number that is written ──
record Natural (z : ℤ) : Type 0 where
  is : z ≡ pos (nat_abs z)
  small : nat_abs z ≤ 2147483647

natural : (z : ℤ) → SFits w32 z → le_z (pos 0) z ≡ true → Natural z
natural (pos n) f e = let h : n < 2147483648 = f.sfits in record { is = refl; small = omega arith }
natural (negsuc n) f e = clash e refl

headway-natural : (z : ℤ) → SFits w32 z → lt_z (pos 0) z ≡ true → Natural z × (0 < nat_abs z)
headway-natural (pos n) f e = let h : n < 2147483648 = f.sfits in (record { is = refl; small = omega arith }, ltb-true 0 n e)
headway-natural (negsuc n) f e = clash e refl

-- ── the windows that are written ──
abbrev five : Columns
five = record { trip = 0; start = 1; end = 2; headway = 3; exact = 4 }

module _ (count : ℕ) (text : List ℕ) (w : Windows) (fit : Fitting count w) (lent : List ℕ) (known : WriteKnown count text w lent) where
  record Window (i : ℕ) : Type 0 where
    start : Natural (start_at w i)
    end : Natural (end_at w i)
    headway : Natural (headway_given w i) × (0 < nat_abs (headway_given w i))
    exact : exact_given w i ≤ 1
    named : 0 < length (name_at text w i)

  window : (i : ℕ) → i < count → Window i
  window i l = record {
    start = natural (start_at w i) (fit.starts i l) (and_left (le_z (pos 0) (start_at w i)) (le_z (pos 0) (end_at w i)) (known.times i l));
    end = natural (end_at w i) (fit.ends i l) (and_right (le_z (pos 0) (start_at w i)) (le_z (pos 0) (end_at w i)) (known.times i l));
    headway = headway-natural (headway_given w i) (fit.headways i l) (known.headways i l);
    exact = leb-true (exact_given w i) 1 (known.exacts i l);
    named = go (eqb (nat w.name_doubled i) 0) (known.doubled i l);
  }
    where
      size : ℕ
      size = nat w.name_lengths i

      place : ℕ
      place = nat w.name_places i

      long : 0 < length (standing text w i)
      long =
          let some = ltb-true 0 size (and_left (ltb 0 size) (leb (place + size) (length text)) (known.names i l)) in
          let inner = leb-true (place + size) (length text) (and_right (ltb 0 size) (leb (place + size) (length text)) (known.names i l)) in
          omega (arith, length-take size (drop place text), length-drop place text)

      go : (b : Bool) → (b || doubled_from false (standing text w i)) ≡ true → 0 < length (cond b (standing text w i) (halved (standing text w i)))
      go true e = long
      go false e = halved-some (standing text w i) e long

  lined : (i : ℕ) → i < count → Lined (raws text w i)
  lined i l = let x = window i l in record {
    trip = name-apart (name_at text w i);
    start = plain-apart _ (time-plain (nat_abs (start_at w i)) x.start.small);
    end = plain-apart _ (time-plain (nat_abs (end_at w i)) x.end.small);
    headway = plain-apart _ (decimal-plain (nat_abs (headway_given w i)) (omega (arith, x.headway.0.small)));
    exact = exact-plain (exact_given w i) x.exact;
  }

  -- ── a row says its window ──
  record Says (i : ℕ) (r : Row) : Type 0 where
    width : length r.fields ≡ 5
    right : quotes_good r ≡ true
    name : body_in r 0 ≡ shown (name_at text w i)
    start : start_of five r ≡ start_at w i
    end : end_of five r ≡ end_at w i
    headway : headway_of five r ≡ headway_given w i
    exact : exact_of five r ≡ exact_given w i

  says : (i : ℕ) (r : Row) → i < count → RowOf (raws text w i) r → Says i r
  says i r l f =
      let x = window i l in
      let plain-start = time-plain (nat_abs (start_at w i)) x.start.small in let plain_end = time-plain (nat_abs (end_at w i)) x.end.small in
      let plain-headway = decimal-plain (nat_abs (headway_given w i)) (omega (arith, x.headway.0.small)) in let plain-exact = exact-plain (exact_given w i) x.exact in
      let body_at : (k : ℕ) → body_in r k ≡ body (get_or (fields_at (raws text w i) f.at₀ f.at₁ f.at₂ f.at₃ f.at₄) k (field 0 [])).raw = λ k. ap (λ fs. body (get_or fs k (field 0 [])).raw) f.is in
      record {
        width = ap length f.is;
        right = ap (all (λ (g : Field). quotes_right g.raw)) f.is
            ∙ rw (
              name-right (name_at text w i),
              plain-right (raws text w i).start plain-start,
              plain-right (raws text w i).end plain_end,
              plain-right (raws text w i).headway plain-headway,
              plain-right (raws text w i).exact plain-exact,
            );
        name = body_at 0 ∙ name_body (name_at text w i);
        start = ap time (body_at 1 ∙ plain_body _ plain-start) ∙ time-back (nat_abs (start_at w i)) x.start.small ∙ sym x.start.is;
        end = ap time (body_at 2 ∙ plain_body _ plain_end) ∙ time-back (nat_abs (end_at w i)) x.end.small ∙ sym x.end.is;
        headway = ap headway (body_at 3 ∙ plain_body _ plain-headway) ∙ headway-back (nat_abs (headway_given w i)) x.headway.1 x.headway.0.small ∙ sym x.headway.0.is;
        exact = ap exact (body_at 4 ∙ plain_body _ plain-exact) ∙ exact-back (exact_given w i) x.exact;
      }

  -- ── the reader's checks, of bytes that are the file ──
  module _ (bytes : List ℕ) (same : bytes ≡ file_bytes count text w) (into : Windows) (room : room_for count into ≡ true) where
    all-rows : Whole text w count
    all-rows = whole text w count lined

    rows_are : rows_of bytes ≡ all-rows.head ∷ all-rows.rows
    rows_are = ap rows_of same ∙ all-rows.is

    windows-are : window_rows bytes ≡ all-rows.rows
    windows-are = ap (drop 1) rows_are

    head-fields : (header bytes).fields ≡ fields_at head_raws all-rows.head-row.at₀ all-rows.head-row.at₁ all-rows.head-row.at₂ all-rows.head-row.at₃ all-rows.head-row.at₄
    head-fields = ap (λ rs. (head_of rs).fields) rows_are ∙ all-rows.head-row.is

    columns-are : columns_of (header bytes) ≡ five
    columns-are = ap (λ fs. columns_of (row 1 fs)) head-fields

    many : length (window_rows bytes) ≡ count
    many = ap length windows-are ∙ all-rows.many

    row-says : (i : ℕ) → i < count → Says i (get_or (window_rows bytes) i (row 1 []))
    row-says i l = rw windows-are (says i (get_or all-rows.rows i (row 1 [])) l (all-rows.each i l))

    -- a test that each row passes
    passes : (good : Row → Bool) → ((i : ℕ) → i < count → good (get_or (window_rows bytes) i (row 1 [])) ≡ true) → all good (window_rows bytes) ≡ true
    passes good h = all-places good (window_rows bytes) (row 1 []) (λ i l. h i (let z = many in omega arith))

    not-blank : (z : ℤ) → Natural z → not (eq_z z blank) ≡ true
    not-blank z n = rw n.is

    -- 1 and 4
    short : leb (length bytes) 2147483647 ≡ true
    short =
        let file = file_bytes count text w in let low = leb-true (length file) (min (length lent) 2147483647) known.room in
        ap (λ bs. leb (length bs) 2147483647) same ∙ le-leb (length file) 2147483647 (omega arith)

    head-right : quotes_good all-rows.head ≡ true
    head-right = ap (all (λ (g : Field). quotes_right g.raw)) all-rows.head-row.is

    rows_right : all quotes_good all-rows.rows ≡ true
    rows_right = ap (all quotes_good) (sym windows-are) ∙ passes quotes_good (λ i l. (row-says i l).right)

    readable : ReadKnown bytes into
    unfolding every
    readable = record {
      fits = ap₂ ◌&&◌ short (ap (λ k. room_for k into) many ∙ room);
      heads = ap (λ fs. header_good (row 1 fs)) head-fields;
      widths = passes (width_good (length (header bytes).fields)) (λ i l. rw ((row-says i l).width, head-fields));
      quotes = ap (all quotes_good) rows_are ∙ ap₂ ◌&&◌ head-right rows_right;
      times = rw columns-are (passes (times_good five) (λ i l. let s = row-says i l in let x = window i l in
          rw (s.start, s.end) (ap₂ ◌&&◌ (not-blank (start_at w i) x.start) (not-blank (end_at w i) x.end))));
      headways = rw columns-are (passes (headway_good five) (λ i l. rw (row-says i l).headway (not-blank (headway_given w i) (window i l).headway.0)));
      exacts = rw columns-are (passes (exact_good five) (λ i l. rw (row-says i l).exact (le-leb (exact_given w i) 1 (window i l).exact)));
      names = rw columns-are (passes (name_good five) (λ i l. rw (row-says i l).name (lt-ltb 0 (length (shown (name_at text w i))) (shown-some (name_at text w i) (window i l).named))));
    }

    read_back : (p : ReadOutcome bytes into) → p.answer ≡ Ok count
    read_back p = read_answer bytes into p readable ∙ ap Ok many

    same-window : (p : ReadOutcome bytes into) (i : ℕ) → i < count → SameWindow text w bytes p.windows i
    same-window p i l =
        let k = was_read bytes into p count (read_back p) in let s = row-says i l in
        let t = told bytes into readable i (let z = many in omega arith) in
        let body_is = ap (λ (c : Columns). body_in (get_or (window_rows bytes) i (row 1 [])) c.trip) columns-are ∙ s.name in
        rw k.filled
        record {
          name = sym (ap₂ (λ n x. cond (eqb n 0) x (halved x)) (t.double ∙ ap (λ x. cond (any is_quote x) 1 0) body_is) (t.name ∙ body_is) ∙ shown-back (name_at text w i));
          start = sym (t.start ∙ ap (λ c. start_of c (get_or (window_rows bytes) i (row 1 []))) columns-are ∙ s.start);
          end = sym (t.end ∙ ap (λ c. end_of c (get_or (window_rows bytes) i (row 1 []))) columns-are ∙ s.end);
          headway = sym (t.headway ∙ ap (λ c. headway_of c (get_or (window_rows bytes) i (row 1 []))) columns-are ∙ s.headway);
          exact = sym (t.exact ∙ ap (λ c. exact_of c (get_or (window_rows bytes) i (row 1 []))) columns-are ∙ s.exact);
        }

pub written-is-read : WrittenIsRead
written-is-read count text w fit buffer o size e lent room p =
    let k = was-written count text w buffer o size e in let bytes = take size o.buffer in
    (read_back count text w fit buffer k.known bytes k.filled lent room p, same-window count text w fit buffer k.known bytes k.filled lent room p)
