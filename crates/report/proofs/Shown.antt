-- A buffer of 98,304 bytes that shows the list of what building a file left, or the line of its refusal, shows the text for the file whole.
-- Assumes nothing.
use Prim.Native.Nat.{ℕ, ◌≤◌}
use native.Mathlib.Omega.{arith}
use mathlib.Core.Bool.{Bool}
use mathlib.Core.List.{List, ◌++◌}
use mathlib.Core.Path.{◌≡◌, ap, ap₂, sym, ◌∙◌}
use lib.IntN.{ℤ, pos}
use lib.ListN.{length, take, drop, replicate, take-append-drop}
use lib.Seq.{take_all}
use Rattle.io.specs.Counts.{IsPrefixLen}
use Rattle.std.specs.Prelude.{Result, Ok, Err}
use Rattle.tables.specs.declared.Refusal.{Refusal}
use Rattle.records.specs.Left.{answer_in}
use Rattle.text.specs.Buffer.{Shows}
use Rattle.text.specs.Lines.{lines, refusal}
use Rattle.report.specs.declared.Built.{Built}
use Rattle.report.specs.Printed.{of_file, left_by_file, said, text_of, printed}
use Rattle.report.proofs.Bounds.{printed-length}

-- a buffer that has room for every text shows it whole
whole : (reasons : Bool) (file : List ℕ) {text before after : List ℕ} {count : ℕ} → text ≡ printed reasons file → 98304 ≤ length before
    → (IsPrefixLen count after) × (Shows text before after count)
    → (IsPrefixLen count after) × ((count ≡ length (printed reasons file)) × (after ≡ printed reasons file ++ drop count before))
whole reasons file {before = before} {after = after} {count = count} e room (c, s) =
    let fits = printed-length reasons file in
    let front : take count after ≡ printed reasons file = s.shown ∙ ap (take (length before)) e ∙ take_all (length before) (printed reasons file) (omega arith) in
    (c, (c.1 ∙ ap length front, sym (take-append-drop count after) ∙ ap₂ ◌++◌ front s.rest))

-- what building left in rows of zeros, by the case of its answer
module _ (reasons : Bool) (file : List ℕ) (built : Built) (numbers : List ℕ) (stored : List ℤ) (row : List ℕ) (q : left_by_file built numbers stored row ≡ of_file (replicate 4096 0) (replicate 4096 (pos 0)) (replicate 4096 0) file) where
  text-left : (a : Result ℕ Refusal) → built.answer ≡ a → said reasons (answer_in a) built.n numbers stored row ≡ printed reasons file
  unfolding printed
  text-left a e = sym (ap (λ x. said reasons (answer_in x) built.n numbers stored row) e) ∙ ap (text_of reasons) q

  pub list-shown : {before after : List ℕ} {count : ℕ} (evaluations : ℕ) → built.answer ≡ Ok evaluations → 98304 ≤ length before
      → (IsPrefixLen count after) × (Shows (lines reasons built.n numbers stored row) before after count)
      → (IsPrefixLen count after) × ((count ≡ length (printed reasons file)) × (after ≡ printed reasons file ++ drop count before))
  list-shown evaluations e = whole reasons file (text-left (Ok evaluations) e)

  pub refusal-shown : {before after : List ℕ} {count : ℕ} (r : Refusal) → built.answer ≡ Err r → 98304 ≤ length before
      → (IsPrefixLen count after) × (Shows (refusal r.number r.place) before after count)
      → (IsPrefixLen count after) × ((count ≡ length (printed reasons file)) × (after ≡ printed reasons file ++ drop count before))
  refusal-shown r e = whole reasons file (text-left (Err r) e)
