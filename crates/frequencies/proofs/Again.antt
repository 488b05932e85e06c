-- There and back and there again: the two theorems on what was written and what was read, one after the other; and an outcome is what its call states.
-- Assumes nothing.
use Prim.Native.Nat.{ℕ, zero, suc, ◌<◌, min}
use native.Mathlib.Omega.{arith}
use mathlib.Core.Bool.{true}
use mathlib.Core.List.{List, ◌++◌}
use mathlib.Core.Path.{◌≡◌, refl, ap, ap₂, sym, ◌∙◌}
use lib.IntN.{ℤ, pos}
use lib.ListN.{length, take}
use mir.Syntax.{w32}
use mir.Val.{SFits}
use borrow.Author.Tests.{leb-true, le-leb}
use Rattle.integers.proofs.Ranges.{parts-fit}
use Rattle.paper.specs.Lists.{joined}
use Rattle.paper.specs.Checks.{Verdict, leaves}
use Rattle.frequencies.specs.Reading.{Windows, window_rows, ReadLeft, carried_by, read_verdict, read_frequencies, ReadOutcome}
use Rattle.frequencies.specs.Writing.{window_bytes, head_bytes, file_bytes, room_in, write_verdict, WriteLeft, write_frequencies}
use Rattle.frequencies.specs.Laws.{SameWindow, Fitting, ReadAgain, WrittenAgain, ReadRefused, WriteRefused, ReadOnce, WriteOnce}
use Rattle.std.specs.Prelude.{Ok, Err}
use Rattle.tables.specs.Answers.{refusal}
use Rattle.tables.proofs.Answered.{refused-is}
use Rattle.frequencies.proofs.Accepted.{was_read, was-written}
use Rattle.frequencies.proofs.ReadWritten.{Spoken, found, read-is-written}
use Rattle.frequencies.proofs.WrittenRead.{written-is-read}

-- ── read, written and read ──
spoken-fits : (least : ℕ) (z : ℤ) → Spoken least z → SFits w32 z
spoken-fits least z s = rw s.is (parts-fit w32 (pos s.value) (omega (arith, s.small)) (omega arith))

read-fitting : (bytes : List ℕ) (lent : Windows) (o : ReadOutcome bytes lent) (count : ℕ) → o.answer ≡ Ok count → Fitting count o.windows
read-fitting bytes lent o count e =
    let k = was_read bytes lent o count e in
    rw k.filled record {
      starts = λ i l. spoken-fits 0 _ (found bytes lent k.known i (omega (arith, k.many))).start;
      ends = λ i l. spoken-fits 0 _ (found bytes lent k.known i (omega (arith, k.many))).end;
      headways = λ i l. spoken-fits 1 _ (found bytes lent k.known i (omega (arith, k.many))).headway;
    }

pub read_again : ReadAgain
read_again bytes lent o count e buffer room p again wide q =
    written-is-read count bytes o.windows (read-fitting bytes lent o count e) buffer p (length (file_bytes count bytes o.windows))
    (read-is-written bytes lent o count e buffer room p) again wide q

-- ── written, read and written: the same windows are the same bytes ──
same_bytes : (count : ℕ) (text : List ℕ) (w : Windows) (text' : List ℕ) (w' : Windows) → ((i : ℕ) → i < count → SameWindow text w text' w' i)
    → joined (window_bytes text w) count ≡ joined (window_bytes text' w') count
same_bytes zero text w text' w' h = refl
same_bytes (suc n) text w text' w' h =
    let s = h n (omega arith) in ap₂ ◌++◌ (same_bytes n text w text' w' (λ i l. h i (omega arith))) (rw (s.name, s.start, s.end, s.headway, s.exact))

pub same-file : (count : ℕ) (text : List ℕ) (w : Windows) (text' : List ℕ) (w' : Windows) → ((i : ℕ) → i < count → SameWindow text w text' w' i)
    → file_bytes count text w ≡ file_bytes count text' w'
unfolding file_bytes
same-file count text w text' w' h = ap (head_bytes ++◌) (same_bytes count text w text' w' h)

pub written-again : WrittenAgain
written-again count text w fit buffer o size e lent wide p again l q =
    let k = was-written count text w buffer o size e in let file = take size o.buffer in
    let (read, same) = written-is-read count text w fit buffer o size e lent wide p in
    let bytes-are = same-file count text w file p.windows same in
    let small = leb-true (length (file_bytes count text w)) (min (length buffer) 2147483647) k.known.room in
    let room : room_in count file p.windows again ≡ true = rw (← bytes-are) (le-leb (length (file_bytes count text w)) (min (length again) 2147483647) (omega (arith, k.many))) in
    let answer : q.answer ≡ Ok size = read-is-written file lent p count read again room q ∙ ap Ok (ap length (sym bytes-are) ∙ k.many) in
    (answer, (was-written count file p.windows again q size answer).filled ∙ sym bytes-are ∙ sym k.filled)

-- ── refused ──
as-was : {A : Type 0} (v : Verdict) (count number place : ℕ) (after before : A) → carried_by v count ≡ Err (refusal number place) → leaves v after before ≡ before
as-was v count number place after before e = ap (λ x. leaves x after before) (refused-is count (refusal number place) v e)

pub read-refused : ReadRefused
unfolding read_frequencies
read-refused bytes lent o number place e =
    ap (λ (x : ReadLeft). x.windows) o.stated
    ∙ as-was (read_verdict bytes lent) (length (window_rows bytes)) number place _ lent (sym (ap (λ (x : ReadLeft). x.answer) o.stated) ∙ e)

pub write-refused : WriteRefused
unfolding write_frequencies
write-refused count text w lent o number place e =
    ap (λ (x : WriteLeft). x.buffer) o.stated
    ∙ as-was (write_verdict count text w lent) (length (file_bytes count text w)) number place _ lent (sym (ap (λ (x : WriteLeft). x.answer) o.stated) ∙ e)

-- ── once ──
pub read-once : ReadOnce
read-once bytes lent o p = let e = o.stated ∙ sym p.stated in (ap (λ (x : ReadLeft). x.answer) e, ap (λ (x : ReadLeft). x.windows) e)

pub write-once : WriteOnce
write-once count text w lent o p = let e = o.stated ∙ sym p.stated in (ap (λ (x : WriteLeft). x.answer) e, ap (λ (x : WriteLeft). x.buffer) e)
