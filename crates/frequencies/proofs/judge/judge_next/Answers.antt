-- Each check sees what stands in its column (`row-judged`). Assumes nothing.
use mathlib.Core.Bool.{not, ◌&&◌}
use mathlib.Core.Path.{refl, ap, ap₂, ◌∙◌}
use lib.Dec.{eqb, leb, ltb}
use mir.Syntax.{w32}
use mir.Facts.{to_z-of_z}
use borrow.Author.Rules.{sfits_of}
use Rattle.integers.specs.Integers.{eq_z}
use Rattle.paper.specs.Formula.{blank}
use Rattle.frequencies.specs.Values.{time, headway, exact}
use Rattle.frequencies.proofs.Checking.{row-judged}
use Rattle.frequencies.proofs.judge.judge_next.Goals as goal

pub returns : goal.returns
returns c =
    let a = c.args in
    let p = c.requires in
    let row = c.scan_row-row.result in
    let s = c.scan_row-row.ensures in
    row-judged a.bytes.now a.columns a.width a.j a.from row p.next p.started s
    {g₃ = eqb row.width a.width} {g₄ = row.right} {g₅ = c.both_values.result} {g₆ = not c.is_blank.result}
    {g₇ = leb c.exact_of-exact.result 1} {g₈ = ltb 0 row.trip.size}
    (record {
      count = refl;
      widths = c.first_bad.ensures;
      quotes = c.first_bad-2.ensures;
      times = c.first_bad-3.ensures;
      headways = c.first_bad-4.ensures;
      exacts = c.first_bad-5.ensures;
      names = c.first_bad-6.ensures;
      next = c.row_behind.ensures;
      is₃ = ap (λ n. eqb n a.width) s.width;
      is₄ = s.right;
      is₅ = c.both_values.ensures ∙ ap₂ (λ x y. not (eq_z x blank) && not (eq_z y blank))
          (to_z-of_z {w = w32} (sfits_of c.time_of-start.type_inv) ∙ c.time_of-start.ensures ∙ ap time (c.part.ensures ∙ s.columns.start.bytes-are))
          (to_z-of_z {w = w32} (sfits_of c.time_of-end.type_inv) ∙ c.time_of-end.ensures ∙ ap time (c.part-2.ensures ∙ s.columns.end.bytes-are));
      is₆ = ap not (c.is_blank.ensures ∙ ap (λ z. eq_z z blank) (to_z-of_z {w = w32} (sfits_of c.headway_of-headway.type_inv) ∙ c.headway_of-headway.ensures
          ∙ ap headway (c.part-3.ensures ∙ s.columns.headway.bytes-are)));
      is₇ = ap (λ e. leb e 1) (c.exact_of-exact.ensures ∙ ap exact (c.part-4.ensures ∙ s.columns.exact.bytes-are));
      is₈ = ap (ltb 0) s.columns.trip.size_is;
    })
