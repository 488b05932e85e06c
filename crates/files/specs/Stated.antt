-- What a caller has at exit of each call over files, once over the version. A record below is one outcome that the call's contract allows: its field `stated` is the
-- contract's equation, and nothing else is known of the code. A call of version 1 lends no rows for bounds. Assumes nothing.
use Rattle.std.specs.Prelude.{ℕ, List, ◌≡◌, Result}
use Rattle.paper.specs.Checks.{Verdict}
use Rattle.paper.specs.File as file
use Rattle.paper.specs.File.{Version, Contents, counted}
use Rattle.files.specs.Answers.{verdict, has_read}
use Rattle.files.specs.MoveAnswers.{has_converted}
use Rattle.tables.specs.declared.Refusal.{Refusal}
use Rattle.fields.specs.declared.places.Size.{Size}

-- of `write`, of version 1, and of `write_bounded`, of version 2
pub record WriteOutcome (v : Version) (c : Contents) (lent : List ℕ) : Type 0 where
  pub answer : Result Unit Refusal
  pub bytes : List ℕ
  pub stated : (verdict answer, bytes) ≡ file.write v c lent

abbrev pub left_written : {v : Version} {c : Contents} {lent : List ℕ} → WriteOutcome v c lent → Verdict × List ℕ
left_written o = (verdict o.answer, o.bytes)

-- of `read` and of `read_bounded`: lent rows have no counts, the answer gives them
pub record ReadOutcome (v : Version) (bytes : List ℕ) (lent : Contents) : Type 0 where
  pub answer : Result Size Refusal
  pub rows : Contents
  pub stated : has_read answer (counted 0 0 0 rows) ≡ file.read v bytes (counted 0 0 0 lent)

abbrev pub left_read : {v : Version} {bytes : List ℕ} {lent : Contents} → ReadOutcome v bytes lent → Verdict × Contents
left_read o = has_read o.answer (counted 0 0 0 o.rows)

-- of `to_version_2`, from version 1 to 2, and of `to_version_1`, from 2 to 1
pub record MoveOutcome (from to : Version) (bytes lent : List ℕ) : Type 0 where
  pub answer : Result ℕ Refusal
  pub buffer : List ℕ
  pub stated : has_converted answer buffer ≡ file.convert from to bytes lent

abbrev pub left_moved : {from to : Version} {bytes lent : List ℕ} → MoveOutcome from to bytes lent → Verdict × (ℕ × List ℕ)
left_moved o = has_converted o.answer o.buffer
