use native.Mathlib.Omega.{arith}
use mathlib.Core.Path.{refl, sym, ◌∙◌}
use Rattle.paper.proofs.Scan.{scan-start, scan-next, scan-some, scan-none, and-on, and-off, total-next}
use Rattle.tables.specs.Lent.{lent_tables}
use Rattle.tables.proofs.Shapes.{placed-facts, placed-shape}
use Rattle.tables.proofs.shape.bad_shape_by_row.Goals as goal

pub loop-row-init : goal.loop-row-init
loop-row-init c = (scan-start _ _, refl)

pub returns-then-not-placed : goal.returns-then-not-placed
returns-then-not-placed c =
    let t = lent_tables c.args.tables.now in
    scan-some _ _ _ c.loop-row.invariant.0 (omega arith)
    (sym (and-off _ _ _ c.if-not-placed.true
    (placed-shape t c.loop-row.row c.row_good.result c.wide-first.result c.wide.result c.loop-row.before c.row_good.ensures c.wide-first.ensures.0 c.wide.ensures.0 c.loop-row.invariant.1)))

pub slice_bounds-inputs_good-end : goal.slice_bounds-inputs_good-end
slice_bounds-inputs_good-end c =
    let stands = placed-facts (lent_tables c.args.tables.now) c.row_good.result c.wide-first.result c.wide.result c.loop-row.before c.if-not-placed.false in
    let long = c.requires.vars in
    omega arith

pub returns-then-not-inputs_good : goal.returns-then-not-inputs_good
returns-then-not-inputs_good c =
    let t = lent_tables c.args.tables.now in
    scan-some _ _ _ c.loop-row.invariant.0 (omega arith)
    (sym (c.inputs_good.ensures ∙ and-on _ _ _ c.if-not-placed.false
    (placed-shape t c.loop-row.row c.row_good.result c.wide-first.result c.wide.result c.loop-row.before c.row_good.ensures c.wide-first.ensures.0 c.wide.ensures.0 c.loop-row.invariant.1)) ∙ c.if-not-inputs_good.true)

pub loop-row-preserved : goal.loop-row-preserved
loop-row-preserved c =
    let t = lent_tables c.args.tables.now in
    let at = (placed-facts t c.row_good.result c.wide-first.result c.wide.result c.loop-row.before c.if-not-placed.false).0 in
    let before = c.loop-row.invariant.1 in let own = c.wide.ensures in let long = c.requires.parts.counts in (
      scan-next _ _ _ c.loop-row.invariant.0 (omega arith)
          (sym (c.inputs_good.ensures ∙ and-on _ _ _ c.if-not-placed.false
          (placed-shape t c.loop-row.row c.row_good.result c.wide-first.result c.wide.result c.loop-row.before c.row_good.ensures c.wide-first.ensures.0 c.wide.ensures.0 c.loop-row.invariant.1)) ∙ c.if-not-inputs_good.false),
      omega (arith, total-next t.counts c.loop-row.row (omega arith)),
    )

pub returns : goal.returns
returns c = scan-none _ _ _ c.loop-row.invariant.0 (omega arith)
