-- A call that reads, whatever the version: its verdict by the answer to the header, and what it reads by its verdict. Assumes nothing.
use Prim.Native.Nat.{ℕ, ◌+◌}
use mathlib.Core.Bool.{true, false}
use mathlib.Core.List.{List}
use mathlib.Core.Path.{◌≡◌, refl, ap, sym, ◌∙◌}
use lib.IntN.{ℤ}
use lib.ListN.{length}
use mir.Syntax.{w32}
use mir.Val.{to_z}
use Rattle.paper.specs.Lists.{over}
use Rattle.paper.specs.Tables.{Tables, lent}
use Rattle.paper.specs.Checks.{Verdict, accepted, leaves}
use Rattle.paper.specs.File.{Version, version1, Contents, contents, unbounded_contents, head_of, bounded, bounds_from, ends_at, held, n_in, m_in, e_in, header, column, starts_from, tables_from, counted, laid, read_verdict, read}
use Rattle.paper.proofs.Verdicts.{require-held, then-second}
use Rattle.paper.proofs.Reading.{headed, read-verdict, read-refused, read_short, read_done, read-headed, same-contents, read_plain}
use Rattle.files.specs.HeaderAnswers.{answer, Stated}
use Rattle.std.specs.Prelude.{Result, Ok, Err}
use Rattle.tables.specs.declared.Refusal.{Refusal}
use Rattle.tables.specs.Answers.{refusal}
use Rattle.fields.specs.declared.places.Size.{Size}
use Rattle.files.proofs.HeaderAnswered.{stated, turned, told}
use Rattle.files.specs.Answers.{has_read}

module _ (v : Version) (bytes : List ℕ) (c : Contents) where
  -- ── the verdict, by the answer to the header ──
  pub refused-header : {r : Refusal} → Err r ≡ answer bytes (header v bytes) → Err r ≡ answer bytes (read_verdict v bytes c)
  refused-header {r} q = ap (λ x. answer bytes x.0) (read-refused v bytes c r.number r.place (turned bytes (header v bytes) q))

  module _ {size : Size} (q : Ok size ≡ answer bytes (header v bytes)) where
    pub short-rows : held v (counted size.n size.m size.e c) ≡ false → Err (refusal 1 0) ≡ answer bytes (read_verdict v bytes c)
    short-rows l = let s = told v bytes q in ap (λ x. answer bytes x.0) (read_short v bytes c s.good (rw (s.n-is, s.m-is, s.e-is) at l))

    pub room-enough : held v (counted size.n size.m size.e c) ≡ true → Ok size ≡ answer bytes (read_verdict v bytes c)
    room-enough l = let s = told v bytes q in
        q ∙ ap (answer bytes) s.good ∙ ap (λ x. answer bytes x.0) (read_done v bytes c s.good (rw (s.n-is, s.m-is, s.e-is) at l) refl)

  -- ── what is read, by the verdict ──
  pub nothing_read : {r : Refusal} → Err r ≡ answer bytes (read_verdict v bytes c) → has_read (Err r) c ≡ read v bytes c
  nothing_read q = ap (λ w. (w, leaves w (laid v bytes (n_in bytes) (m_in bytes) (e_in bytes) c) (counted 0 0 0 c))) (sym (turned bytes (read_verdict v bytes c) q))

  module _ {size : Size} (q : Ok size ≡ answer bytes (read_verdict v bytes c)) where
    abbrev n : ℕ
    n = size.n

    abbrev m : ℕ
    m = size.m

    abbrev e : ℕ
    e = size.e

    found : Stated bytes (read_verdict v bytes c) n m e
    found = stated bytes (read_verdict v bytes c) q

    -- the rows have room, and the file ends where its counts say
    pub roomy : (held v (counted n m e c) ≡ true) × (length bytes ≡ ends_at v n m e)
    roomy =
        let s = found in let right = read-headed v bytes c s.good in (
          rw (s.n-is, s.m-is, s.e-is) (require-held 1 0 _ accepted (then-second (header v bytes) _ (sym (read-verdict v bytes c) ∙ s.good))),
          rw (s.n-is, s.m-is, s.e-is) (headed v bytes right).whole,
        )

    -- each column is laid over its row
    pub all_read : {head at count : ℕ} → head ≡ head_of v → at ≡ bounds_from head n m e → count ≡ bounded v n
        → {kinds makes firsts counts vars : List ℕ} {params coefs starts lows highs : List ℤ}
        → starts ≡ starts_from bytes head n m e c.starts
        → kinds ≡ (tables_from bytes head n m e c.tables).kinds
        → makes ≡ (tables_from bytes head n m e c.tables).makes
        → params ≡ (tables_from bytes head n m e c.tables).params
        → firsts ≡ (tables_from bytes head n m e c.tables).firsts
        → counts ≡ (tables_from bytes head n m e c.tables).counts
        → vars ≡ (tables_from bytes head n m e c.tables).vars
        → coefs ≡ (tables_from bytes head n m e c.tables).coefs
        → lows ≡ over count (λ i. to_z w32 (column bytes 4 at 8 i)) c.lows
        → highs ≡ over count (λ i. to_z w32 (column bytes 4 (at + 4) 8 i)) c.highs
        → ◌≡◌ {A = Verdict × Contents} (accepted, contents (lent n m e kinds makes params firsts counts vars coefs) starts lows highs) (read v bytes c)
    all_read h b k s ki ma pa fi co va ce lo hi =
        read_done v bytes c (read-headed v bytes c found.good) (rw (found.n-is, found.m-is, found.e-is) at roomy.0)
        (same-contents (rw h at s) (rw h at ki) (rw h at ma) (rw h at pa) (rw h at fi) (rw h at co) (rw h at va) (rw h at ce) (rw (b, h, k) at lo) (rw (b, h, k) at hi)
        ∙ rw (found.n-is, found.m-is, found.e-is))

-- ── version 1: rows without bounds have none afterwards ──
pub read-plainly : (bytes : List ℕ) (t : Tables) (starts : List ℤ) (r : Result Size Refusal) (c : Contents) → has_read r c ≡ read version1 bytes (unbounded_contents t starts)
    → has_read r (unbounded_contents c.tables c.starts) ≡ read version1 bytes (unbounded_contents t starts)
read-plainly bytes t starts r c e = same r ∙ ap plain e ∙ ap (λ x. (read_verdict version1 bytes (unbounded_contents t starts), x)) (sym (read_plain bytes t starts))
  where
    plain : Verdict × Contents → Verdict × Contents
    plain x = (x.0, unbounded_contents x.1.tables x.1.starts)

    same : (r : Result Size Refusal) → has_read r (unbounded_contents c.tables c.starts) ≡ plain (has_read r c)
    same (Ok size) = refl
    same (Err refusal) = refl
