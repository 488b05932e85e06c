-- What judging a file says: the verdict of reading it, and what filling needs of it. Assumes nothing.
use Rattle.std.specs.Prelude.{ℕ, ◌≤◌, Bool, ◌&&◌, List, [], ◌∷◌, ◌≡◌, leb, length, take, drop, Result, Ok, Err, IfSome}
use Rattle.std.specs.Result.{ForOk}
use Rattle.paper.specs.Lists.{every}
use Rattle.paper.specs.Checks.{Verdict, accepted, require}
use Rattle.frequencies.specs.Csv.{Row, Rest, row_of, front, split}
use Rattle.frequencies.specs.Values.{header_good}
use Rattle.frequencies.specs.Reading.{columns_of, width_good, quotes_good, times_good, headway_good, exact_good, name_good, check_rows, header, window_rows, carried_by}
use Rattle.frequencies.specs.Scan.{Scannable, rows_from}
use Rattle.frequencies.specs.Heading.{columns_in}
use Rattle.frequencies.specs.Judging.{by_line}
use Rattle.tables.specs.declared.Refusal.{Refusal}
use Rattle.frequencies.specs.declared.judge.Judged.{Judged}
use Rattle.frequencies.specs.declared.verdict.Judgement.{Judgement}

-- as many places as r are all of these
pub record Least (r a b c d e f g h : ℕ) : Type 0 where
  pub so : (k : ℕ) → leb k r ≡ every (leb k a ∷ leb k b ∷ leb k c ∷ leb k d ∷ leb k e ∷ leb k f ∷ leb k g ∷ leb k h ∷ [])

-- by what was found
abbrev pub decided : Bool → ℕ → Judged → Verdict
decided good room j =
    require 1 0 (leb j.count room) (require 2 1 good (by_line 3 j.widths (by_line 4 j.quotes (by_line 5 j.times (by_line 6 j.headways
    (by_line 7 j.exacts (by_line 8 j.names accepted)))))))

-- by a header and the rows behind it
abbrev pub verdict_of : Bool → Row → List Row → Verdict
verdict_of fits h rs =
    let c = columns_of h in
    require 1 0 fits (require 2 h.line (header_good h)
    (check_rows 3 (width_good (length h.fields)) rs (check_rows 4 quotes_good (h ∷ rs) (check_rows 5 (times_good c) rs
    (check_rows 6 (headway_good c) rs (check_rows 7 (exact_good c) rs (check_rows 8 (name_good c) rs accepted)))))))

-- how many rows an accepted file has
abbrev pub counted : Result Judgement Refusal → Result ℕ Refusal
counted (Ok j) = Ok j.count
counted (Err r) = Err r

-- the rows of a file without the line ends at its end
module _ (bytes : List ℕ) (mark room : ℕ) where
  abbrev pub whole_at : Rest
  whole_at = split mark 1 front (drop mark bytes)

  pub record BodyRead (j : Judgement) : Type 0 where
    pub columns : columns_in j.columns ≡ columns_of (row_of whole_at)
    pub end : j.end ≡ length bytes
    pub rows : whole_at.rows ≡ rows_from bytes j.next
    pub here : IfSome j.next (λ p. Scannable bytes p.at p.line)

  pub record BodyJudged (r : Result Judgement Refusal) : Type 0 where
    pub answer : counted r ≡ carried_by (verdict_of (leb (length whole_at.rows) room) (row_of whole_at) whole_at.rows) (length whole_at.rows)
    pub read : ForOk r BodyRead

-- a file
pub record FileRead (bytes : List ℕ) (r : Judgement) : Type 0 where
  pub columns : columns_in r.columns ≡ columns_of (header bytes)
  pub end : r.end ≤ length bytes
  pub rows : window_rows bytes ≡ rows_from (take r.end bytes) r.next
  pub here : IfSome r.next (λ p. Scannable (take r.end bytes) p.at p.line)

pub record FileJudged (bytes : List ℕ) (room : ℕ) (r : Result Judgement Refusal) : Type 0 where
  pub answer : counted r ≡ carried_by (verdict_of (leb (length bytes) 2147483647 && leb (length (window_rows bytes)) room) (header bytes) (window_rows bytes)) (length (window_rows bytes))
  pub read : ForOk r (FileRead bytes)
