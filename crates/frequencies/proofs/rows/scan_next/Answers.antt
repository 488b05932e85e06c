-- The field at the next place is the row's next one (`OneMore`), so the row's first fields are those before it and it. Assumes nothing.
use Prim.Native.Nat.{ℕ, ◌+◌}
use mathlib.Core.Bool.{cond}
use mathlib.Core.Path.{◌≡◌, refl, ap, ◌∙◌}
use lib.Dec.{eqb}
use Rattle.frequencies.specs.declared.parts.Span.{Span}
use Rattle.frequencies.proofs.Scanning.{one-or-none}
use Rattle.frequencies.proofs.ByField.{OneMore, part-next, less-next}
use Rattle.frequencies.proofs.rows.scan_next.Goals as goal

span-same : {a b s t : ℕ} → a ≡ b → s ≡ t → ◌≡◌ {A = Span} (record { at = a; size = s }) (record { at = b; size = t })
span-same p q = rw (p, q)

pub returns : goal.returns
returns c =
    let a = c.args in let row = a.row in let col = a.columns in let f = c.scan_field-f in
    let span = span-same (ap (a.from.at +◌) (c.from.ensures ∙ one-or-none _)) c.held.ensures in
    let more : OneMore a.bytes.now col row a.from c.requires.next f.result f.ensures _ =
    record {
      width = refl;
      right = refl;
      trip = c.pick.ensures ∙ ap (λ k. cond (eqb row.width col.trip) k row.trip) span;
      start = c.pick-2.ensures ∙ ap (λ k. cond (eqb row.width col.start) k row.start) span;
      end = c.pick-3.ensures ∙ ap (λ k. cond (eqb row.width col.end) k row.end) span;
      headway = c.pick-4.ensures ∙ ap (λ k. cond (eqb row.width col.headway) k row.headway) span;
      exact = c.pick-5.ensures ∙ ap (λ k. cond (eqb row.width col.exact) k row.exact) span;
      behind = refl;
    } in
    record {
      part = part-next a.bytes.now col row a.from c.requires.next f.result f.ensures _ more;
      less = less-next a.bytes.now col row a.from c.requires.next f.result f.ensures _ more;
    }
