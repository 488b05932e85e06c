-- What building a file leaves, by the case of an answer. Assumes nothing.
use Prim.Native.Nat.{ℕ, ◌≤◌, ◌<◌}
use mathlib.Core.List.{List}
use mathlib.Core.Path.{◌≡◌, ap, ap₂, sym, ◌∙◌}
use borrow.Author.Tests.{lt-ltb, le-ltb}
use lib.IntN.{ℤ}
use lib.ListN.{length}
use Rattle.paper.specs.Tables.{Tables}
use Rattle.paper.specs.Calls.{BuildLeft, build}
use Rattle.paper.specs.File.{version1, Contents, counted, read}
use Rattle.files.specs.Answers.{has_read}
use Rattle.std.specs.Prelude.{Result, Ok, Err}
use Rattle.tables.specs.declared.Refusal.{Refusal}
use Rattle.fields.specs.declared.places.Size.{Size}
use Rattle.records.specs.declared.Done.{Done}
use Rattle.records.specs.Left.{answer_in, left_by_build}
use Rattle.report.specs.declared.Built.{Built}
use Rattle.report.specs.Printed.{FileLeft, lent_for_file, of_tables, unbuilt, of_read, of_file, empty, left_by_file}

module _ (numbers : List ℕ) (stored : List ℤ) (row : List ℕ) where
  -- of tables: the answer, the numbers, the values and the reasons of what build left
  pub tables-left : (t : Tables) (starts : List ℤ) (done : Done) (numbers' order' : List ℕ) (stored' : List ℤ) (reader_starts reader_places row' log_sizes : List ℕ)
      → left_by_build done numbers' order' stored' reader_starts reader_places row' log_sizes ≡ build (lent_for_file t starts numbers stored row)
      → let left : FileLeft = record { answer = answer_in done.answer; n = t.n; numbers = numbers'; stored = stored'; reasons = row' } in
      left ≡ of_tables numbers stored row t starts
  unfolding of_tables
  tables-left t starts done numbers' order' stored' reader_starts reader_places row' log_sizes e =
      ap (λ (left : BuildLeft). record { answer = left.answer; n = t.n; numbers = left.numbers; stored = left.stored; reasons = left.reasons }) e

  -- of a file that is not read: the refusal
  pub unread-left : (r : Built) (f : Refusal) → (r.answer ≡ Err f) × (r.n ≡ 0) → left_by_file r numbers stored row ≡ unbuilt numbers stored row f.number f.place
  unread-left r f e = ap₂ (λ a n. record { answer = answer_in a; n = n; numbers = numbers; stored = stored; reasons = row }) e.0 e.1

  -- of a file, by its length and by what reading answers
  module _ (file : List ℕ) where
    pub long-left : 65536 < length file → unbuilt numbers stored row 1 0 ≡ of_file numbers stored row file
    unfolding of_file
    long-left h = rw (lt-ltb 65536 (length file) h)

    module _ (r : Result Size Refusal) (c : Contents) (q : has_read r c ≡ read version1 file empty) (h : length file ≤ 65536) where
      file-left : of_read numbers stored row (has_read r c) ≡ of_file numbers stored row file
      unfolding of_file
      file-left = rw (le-ltb 65536 (length file) h) (ap (of_read numbers stored row) q)

      pub refused-left : (f : Refusal) → r ≡ Err f → unbuilt numbers stored row f.number f.place ≡ of_file numbers stored row file
      refused-left f e = sym (ap (λ x. of_read numbers stored row (has_read x c)) e) ∙ file-left

      pub read_left : (size : Size) → r ≡ Ok size → of_tables numbers stored row (counted size.n size.m size.e c).tables c.starts ≡ of_file numbers stored row file
      read_left size a = sym (ap (λ x. of_read numbers stored row (has_read x c)) a) ∙ file-left
