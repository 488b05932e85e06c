-- A check over rows, row by row: the first that is not good decides, and the rows behind it no more. Assumes nothing.
use Prim.Native.Nat.{ℕ, suc, ◌+◌, ◌-◌, ◌≤◌, ◌<◌}
use native.Mathlib.Omega.{arith}
use mathlib.Core.Bool.{Bool, true, false, cond, ◌&&◌}
use mathlib.Core.List.{List, [], ◌∷◌}
use mathlib.Core.Path.{◌≡◌, refl, ap, ap₂, sym, subst, ◌∙◌}
use Rattle.std.specs.Prelude.{Option, Some, None}
use lib.Dec.{ltb}
use lib.ListN.{length, drop}
use Rattle.paper.specs.Lists.{all}
use Rattle.paper.proofs.Lists.{and_left}
use borrow.Author.Tests.{ltb-true, lt-ltb}
use Rattle.paper.specs.Checks.{Verdict, refused}
use Rattle.frequencies.specs.Csv.{is_line_feed, is_return, is_comma, line_feed_next, Row, row_of, all_rows, parted, line_ended, passed, onto, Mode, front, outside, after, split}
use Rattle.frequencies.specs.Reading.{check_rows, width_good, quotes_good, times_good, headway_good, exact_good, name_good}
use Rattle.std.specs.Prelude.{IfSome}
use Rattle.frequencies.specs.Scan.{Scannable, Later, rest_at, rows_from, row_behind, RowScanned}
use Rattle.frequencies.specs.Filling.{still_to_fill}
use Rattle.frequencies.specs.declared.fields.Place.{Place}
use Rattle.frequencies.specs.Heading.{columns_in}
use Rattle.frequencies.specs.Judging.{first_bad, by_line, line_small, Checked, Tested, rows_left, Started, JudgedNext, JudgedSince, JudgedAll}
use Rattle.frequencies.specs.declared.rows.Columns.{Columns}
use Rattle.frequencies.specs.declared.rows.RowScan.{RowScan}
use Rattle.frequencies.specs.declared.judge.Judged.{Judged}
use Rattle.frequencies.proofs.Scanning.{split-line}

-- ── one check ──
pub checked-start : (good : Row → Bool) (rs : List Row) → Checked good rs rs None
checked-start good rs = record { so = λ number next. refl }

pub checked-next : {good : Row → Bool} {rs : List Row} {r : Row} {left : List Row} {bad b : Option ℕ} (is : Bool) (line : ℕ) → Checked good rs (r ∷ left) bad
    → is ≡ good r → r.line ≡ line → b ≡ first_bad bad is line → Checked good rs left b
checked-next {good} {rs} {r} {left} {bad} {b} is line s e l q = record { so = λ number next. rw q (go number next bad is e (s.so number next)) }
  where
    go : (number : ℕ) (next : Verdict) (bad : Option ℕ) (is : Bool) → is ≡ good r
        → by_line number bad (cond (good r) (check_rows number good left next) (refused number r.line)) ≡ check_rows number good rs next
        → by_line number (first_bad bad is line) (check_rows number good left next) ≡ check_rows number good rs next
    go number next None true e s = rw (← e) at s
    go number next None false e s = rw (← e, l) at s
    go number next (Some k) is e s = s

-- ── lines are counted from 1 ──
abbrev numbered : List Row → Bool
numbered = all (λ (r : Row). ltb 0 r.line)

pub lines-numbered : (mode : Mode) (at line : ℕ) (bs : List ℕ) → numbered (split at line mode bs).rows ≡ true
unfolding split
lines-numbered mode at line [] = refl
lines-numbered mode at line (b ∷ bs) =
    go (outside mode && is_comma b) (outside mode && is_line_feed b) (outside mode && (is_return b && line_feed_next bs)) (lines-numbered front (suc at) line bs)
    (ap₂ ◌&&◌ (ap (ltb 0) (split-line front (suc at) (suc line) bs) ∙ lt-ltb 0 (suc line) (omega arith)) (lines-numbered front (suc at) (suc line) bs))
    (lines-numbered mode (suc at) line bs) (lines-numbered (after mode b) (suc at) (cond (is_line_feed b) (suc line) line) bs)
  where
    go : (c f r : Bool) → numbered (split (suc at) line front bs).rows ≡ true → numbered (all_rows (split (suc at) (suc line) front bs)) ≡ true
        → numbered (split (suc at) line mode bs).rows ≡ true → numbered (split (suc at) (cond (is_line_feed b) (suc line) line) (after mode b) bs).rows ≡ true
        → numbered (cond c (parted at line (split (suc at) line front bs))
        (cond f (line_ended at line (split (suc at) (suc line) front bs))
        (cond r (passed at (split (suc at) line mode bs)) (onto at line b (split (suc at) (cond (is_line_feed b) (suc line) line) (after mode b) bs))))).rows ≡ true
    go true f r h₁ h₂ h₃ h₄ = h₁
    go false true r h₁ h₂ h₃ h₄ = h₂
    go false false true h₁ h₂ h₃ h₄ = h₃
    go false false false h₁ h₂ h₃ h₄ = h₄

-- the line of a row behind another
pub line-behind : (at line : ℕ) (bs bs' : List ℕ) (next on : ℕ) → (split at line front bs).rows ≡ all_rows (split next on front bs') → 0 < on
line-behind at line bs bs' next on e =
    rw (split-line front next on bs') at (ltb-true 0 (split next on front bs').line
    (and_left (ltb 0 (split next on front bs').line) (numbered (split next on front bs').rows) (ap numbered (sym e) ∙ lines-numbered front at line bs)))

-- ── one row ──
module _ (bytes : List ℕ) (c : Columns) (width : ℕ) (j : Judged) (from : Place) (row : RowScan) (on : j.next ≡ Some from)
    (started : Started bytes j) (s : RowScanned bytes from.at from.line c row) where
  abbrev this_row : Row
  this_row = row_of (rest_at bytes from)

  abbrev rows_left_now : List Row
  rows_left_now = rows_from bytes (row_behind row.behind)

  left_is : rows_left bytes j ≡ this_row ∷ rows_left_now
  left_is = ap (rows_from bytes) on ∙ ap (this_row ∷◌) s.rows

  line-is : this_row.line ≡ from.line
  line-is = split-line front from.at from.line (drop from.at bytes)

  here : Scannable bytes from.at from.line × (j.count ≤ from.at)
  here = rw on at started.here

  falls : (o : Option Place) → IfSome o (Later bytes from.at) → still_to_fill bytes o < 1 + (length bytes - from.at)
  falls None h = omega arith
  falls (Some p) h = let l = h.on in let w = h.scannable.fits in omega arith

  low : (bad b : Option ℕ) (is : Bool) → line_small bad → b ≡ first_bad bad is from.line → line_small b
  low bad b is h e = rw e (go bad is h)
    where
      line : from.line ≤ 2147483648
      line = let l = here.0.lines in let w = here.0.fits in let m = here.0.small in omega arith

      go : (bad : Option ℕ) (is : Bool) → line_small bad → line_small (first_bad bad is from.line)
      go None true h = tt
      go None false h = line
      go (Some k) is h = h

  -- what was found of the row
  pub record RowJudged (r : Judged) (g₃ g₄ g₅ g₆ g₇ g₈ : Bool) : Type 0 where
    pub count : r.count ≡ j.count + 1
    pub widths : r.widths ≡ first_bad j.widths g₃ from.line
    pub quotes : r.quotes ≡ first_bad j.quotes g₄ from.line
    pub times : r.times ≡ first_bad j.times g₅ from.line
    pub headways : r.headways ≡ first_bad j.headways g₆ from.line
    pub exacts : r.exacts ≡ first_bad j.exacts g₇ from.line
    pub names : r.names ≡ first_bad j.names g₈ from.line
    pub next : r.next ≡ row_behind row.behind
    pub is₃ : g₃ ≡ width_good width this_row
    pub is₄ : g₄ ≡ quotes_good this_row
    pub is₅ : g₅ ≡ times_good (columns_in c) this_row
    pub is₆ : g₆ ≡ headway_good (columns_in c) this_row
    pub is₇ : g₇ ≡ exact_good (columns_in c) this_row
    pub is₈ : g₈ ≡ name_good (columns_in c) this_row

  module _ {r : Judged} {g₃ g₄ g₅ g₆ g₇ g₈ : Bool} (w : RowJudged r g₃ g₄ g₅ g₆ g₇ g₈) where
    started-next : Started bytes r
    started-next = record {
      here = rw (w.next, w.count) (go (row_behind row.behind) s.beyond);
      lines = record {
        widths = low j.widths r.widths g₃ started.lines.widths w.widths;
        quotes = low j.quotes r.quotes g₄ started.lines.quotes w.quotes;
        times = low j.times r.times g₅ started.lines.times w.times;
        headways = low j.headways r.headways g₆ started.lines.headways w.headways;
        exacts = low j.exacts r.exacts g₇ started.lines.exacts w.exacts;
        names = low j.names r.names g₈ started.lines.names w.names;
      };
    }
      where
        go : (o : Option Place) → IfSome o (Later bytes from.at) → IfSome o (λ p. Scannable bytes p.at p.line × (j.count + 1 ≤ p.at))
        go None h = tt
        go (Some p) h = let l = h.on in let k = here.1 in (h.scannable, omega arith)

    behind-is : rows_left_now ≡ rows_left bytes r
    behind-is = rw w.next

    tested-next : (all rs : List Row) → Tested (columns_in c) width all rs (rows_left bytes j) j → Tested (columns_in c) width all rs (rows_left bytes r) r
    tested-next all rs t = let u = rw left_is at t in rw (← behind-is) (record {
      count = let k = u.count in rw w.count (omega arith);
      widths = checked-next g₃ from.line u.widths w.is₃ line-is w.widths;
      quotes = checked-next g₄ from.line u.quotes w.is₄ line-is w.quotes;
      times = checked-next g₅ from.line u.times w.is₅ line-is w.times;
      headways = checked-next g₆ from.line u.headways w.is₆ line-is w.headways;
      exacts = checked-next g₇ from.line u.exacts w.is₇ line-is w.exacts;
      names = checked-next g₈ from.line u.names w.is₈ line-is w.names;
    })

    pub row-judged : JudgedNext bytes c width j from r
    row-judged = record { started = started-next; part = tested-next; less = rw w.next (falls (row_behind row.behind) s.beyond) }

-- ── all rows ──
pub since-start : (bytes : List ℕ) (c : Columns) (width : ℕ) (j : Judged) → Started bytes j → JudgedSince bytes c width j j
since-start bytes c width j s = record { started = s; part = λ all rs t. t }

module _ {bytes : List ℕ} {c : Columns} {width : ℕ} {j r : Judged} (s : JudgedSince bytes c width j r) where
  pub since-next : {q : Judged} {from : Place} → JudgedNext bytes c width r from q → JudgedSince bytes c width j q
  since-next n = record { started = n.started; part = λ all rs t. n.part all rs (s.part all rs t) }

  pub since-end : r.next ≡ None → JudgedAll bytes c width j r
  since-end e = record { started = s.started; all = λ all rs t. subst (λ l. Tested (columns_in c) width all rs l r) (ap (rows_from bytes) e) (s.part all rs t) }
