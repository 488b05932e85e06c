-- The calls over files: each by the law of its table, and that a statement allows one outcome. Assumes nothing.
use Prim.Native.Nat.{ℕ}
use mathlib.Core.List.{List}
use mathlib.Core.Path.{◌≡◌, refl, ap, sym, ◌∙◌}
use lib.ListN.{take}
use Rattle.std.specs.Prelude.{Result, Ok, Err}
use Rattle.paper.specs.Tables.{Tables}
use Rattle.paper.specs.Checks.{Verdict, accepted}
use Rattle.paper.specs.Calls.{number_of, answered}
use Rattle.paper.specs.File.{Version, Contents, counted, write_lines, write_verdict, write, read_lines, read_verdict, read, convert_lines, convert_verdict, convert}
use Rattle.paper.proofs.RoundTrips as paper
use Rattle.paper.proofs.Converted.{convert-refused}
use Rattle.files.specs.Answers.{verdict, has_read}
use Rattle.files.specs.MoveAnswers.{has_converted}
use Rattle.tables.specs.Answers.{answer_of}
use Rattle.tables.specs.declared.Refusal.{Refusal}
use Rattle.fields.specs.declared.places.Size.{Size}
use Rattle.files.specs.Stated.{WriteOutcome, left_written, ReadOutcome, left_read, MoveOutcome, left_moved}
use Rattle.demands.specs.Refusals.{Works}
use Rattle.demands.proofs.Judged.{works}

-- ── what demand 1 says of each call ──
abbrev pub WriteWorks : (v : Version) (c : Contents) (lent : List ℕ) → Verdict × List ℕ → Type 0
WriteWorks v c lent = Works (write_lines v c lent) 0 (λ x. answered x.0 0) (λ x. (x.0, lent))

abbrev pub ReadWorks : (v : Version) (bytes : List ℕ) (lent : Contents) → Verdict × Contents → Type 0
ReadWorks v bytes lent = Works (read_lines v bytes lent) 0 (λ x. answered x.0 0) (λ x. (x.0, counted 0 0 0 lent))

abbrev pub MoveWorks : (from to : Version) (bytes lent : List ℕ) → Verdict × (ℕ × List ℕ) → Type 0
MoveWorks from to bytes lent = Works (convert_lines from to bytes lent) 0 (λ x. answered x.0 0) (λ x. (x.0, (0, lent)))

-- ── a verdict that is not acceptance has a number ──
some_number : (v : Verdict) → (number_of (answered v 0) ≡ 0 → ⊥) → v ≡ accepted → ⊥
some_number v wrong e = wrong (ap (λ u. number_of (answered u 0)) e)

pub write-works : (v : Version) (c : Contents) (lent : List ℕ) (o : WriteOutcome v c lent) → WriteWorks v c lent (left_written o)
unfolding write_verdict
write-works v c lent o =
    let x = write v c lent in
    works (write_lines v c lent) (λ z. answered z.0 0) (λ z. (z.0, lent)) x (left_written o) x.0 0 refl refl refl
    (λ wrong. ap (λ (z : Verdict × List ℕ). (x.0, z.1)) (paper.write-refused v c lent (some_number x.0 wrong))) o.stated

pub read-works : (v : Version) (bytes : List ℕ) (lent : Contents) (o : ReadOutcome v bytes lent) → ReadWorks v bytes lent (left_read o)
unfolding read_verdict
read-works v bytes lent o =
    let c = counted 0 0 0 lent in let x = read v bytes c in
    works (read_lines v bytes lent) (λ z. answered z.0 0) (λ z. (z.0, c)) x (left_read o) x.0 0 refl refl refl
    (λ wrong. ap (λ z. (x.0, z)) (paper.read-refused v bytes c (some_number x.0 wrong))) o.stated

pub move-works : (from to : Version) (bytes lent : List ℕ) (o : MoveOutcome from to bytes lent) → MoveWorks from to bytes lent (left_moved o)
unfolding convert_verdict
move-works from to bytes lent o =
    let x = convert from to bytes lent in
    works (convert_lines from to bytes lent) (λ z. answered z.0 0) (λ z. (z.0, (0, lent))) x (left_moved o) x.0 0 refl refl refl
    (λ wrong. ap (λ z. (x.0, z)) (convert-refused from to bytes lent (some_number x.0 wrong))) o.stated

-- ── the code's answer from what is left ──
written_is : (r : Result Unit Refusal) → answer_of tt (verdict r) ≡ r
written_is (Ok done) = refl
written_is (Err r) = refl

abbrev read_by : Verdict → Tables → Result Size Refusal
read_by v t = answer_of (record { n = t.n; m = t.m; e = t.e }) v

read_is : (r : Result Size Refusal) (c : Contents) → let x = has_read r c in (read_by x.0 x.1.tables ≡ r) × (counted 0 0 0 x.1 ≡ counted 0 0 0 c)
read_is (Ok size) c = (refl, refl)
read_is (Err r) c = (refl, refl)

moved-is : (r : Result ℕ Refusal) (l : List ℕ) → let x = has_converted r l in (answer_of x.1.0 x.0 ≡ r) × (x.1.1 ≡ l)
moved-is (Ok length) l = (refl, refl)
moved-is (Err r) l = (refl, refl)

-- ── any two outcomes that a statement allows are equal ──
pub write-one : (v : Version) (c : Contents) (lent : List ℕ) (o o' : WriteOutcome v c lent) → (o.answer ≡ o'.answer) × (o.bytes ≡ o'.bytes)
write-one v c lent o o' = let e = o.stated ∙ sym o'.stated in
    (sym (written_is o.answer) ∙ ap (λ x. answer_of tt x.0) e ∙ written_is o'.answer, ap (λ x. x.1) e)

pub read_one : (v : Version) (bytes : List ℕ) (lent : Contents) (o o' : ReadOutcome v bytes lent) → (o.answer ≡ o'.answer) × (counted 0 0 0 o.rows ≡ counted 0 0 0 o'.rows)
read_one v bytes lent o o' =
    let e = o.stated ∙ sym o'.stated in let a = read_is o.answer (counted 0 0 0 o.rows) in let a' = read_is o'.answer (counted 0 0 0 o'.rows) in
    (sym a.0 ∙ ap (λ x. read_by x.0 x.1.tables) e ∙ a'.0, sym a.1 ∙ ap (λ x. counted 0 0 0 x.1) e ∙ a'.1)

pub move-one : (from to : Version) (bytes lent : List ℕ) (o o' : MoveOutcome from to bytes lent) → (o.answer ≡ o'.answer) × (o.buffer ≡ o'.buffer)
move-one from to bytes lent o o' =
    let e = o.stated ∙ sym o'.stated in let a = moved-is o.answer o.buffer in let a' = moved-is o'.answer o'.buffer in
    (sym a.0 ∙ ap (λ x. answer_of x.1.0 x.0) e ∙ a'.0, sym a.1 ∙ ap (λ x. x.1.1) e ∙ a'.1)

-- ── what a moved file is taken for: the front of what the call left ──
pub moved_front : {from to : Version} {bytes lent : List ℕ} (o : MoveOutcome from to bytes lent) → let x = (convert from to bytes lent).1 in
    take (left_moved o).1.0 o.buffer ≡ take x.0 x.1
moved_front o = ap (take (left_moved o).1.0) (sym (moved-is o.answer o.buffer).1) ∙ ap (λ x. take x.1.0 x.1.1) o.stated
