use Rattle.std.proofs.Common.{arith, ◌≡◌, ◌<◌, take, ap, ◌∙◌}
use Rattle.integers.proofs.Bits.{told}
use mir.Syntax.{w32}
use Rattle.paper.specs.Lists.{nat}
use Rattle.tables.specs.Lent.{lent_tables}
use Rattle.paper.proofs.Sizes.{sized-facts}
use Rattle.paper.proofs.Accept.{sound-row}
use Rattle.routes.proofs.Walks.{front-long, front-along, row_at, row_fits}
use Rattle.routes.proofs.Worked.{working-next, working-end}
use Rattle.routes.proofs.afresh.work_out.Goals as goal

-- the row at this place is one of the tables
pub bounds-tables-r : goal.bounds-tables-r
bounds-tables-r c =
    let t = lent_tables c.args.tables.now in let a = front-along c.requires.along in
    let h : c.loop-row.row-index < c.args.tables.now.m = omega (arith, front-long c.requires.along) in
    omega (arith, c.wide-r.ensures.0, row_at t _ a c.loop-row.row-index h, (sized-facts t a.sound.sized).makes)

pub row_value-requires : goal.row_value-requires
row_value-requires c =
    let t = lent_tables c.args.tables.now in let a = front-along c.requires.along in
    let h : c.loop-row.row-index < c.args.tables.now.m = omega (arith, front-long c.requires.along) in
    rw c.wide-r.ensures.0 (row_fits t a.sound _ (row_at t _ a c.loop-row.row-index h) c.loop-row.values (omega (arith, c.loop-row.invariant.long)))

pub bounds-values-v : goal.bounds-values-v
bounds-values-v c =
    let t = lent_tables c.args.tables.now in let a = front-along c.requires.along in
    let h : c.loop-row.row-index < c.args.tables.now.m = omega (arith, front-long c.requires.along) in
    let e : c.wide-v.result ≡ nat c.args.tables.now.makes.now (nat (take c.args.tables.now.m c.args.order.now) c.loop-row.row-index) = c.wide-v.ensures.0 ∙ ap (nat c.args.tables.now.makes.now) c.wide-r.ensures.0 in
    omega (arith, e, (sound-row t a.sound _ (row_at t _ a c.loop-row.row-index h)).makes, c.loop-row.invariant.long)

pub loop-row-preserved : goal.loop-row-preserved
loop-row-preserved c =
    let t = lent_tables c.args.tables.now in let q = c.wide-r.ensures.0 in
    let h : c.loop-row.row-index < c.args.tables.now.m = omega (arith, front-long c.requires.along) in
    rw (c.wide-v.ensures.0, q) (working-next t _ (front-along c.requires.along) c.args.values.now c.requires.room c.loop-row.row-index c.loop-row.values c.loop-row.invariant h _ (told w32 c.row_value.type_inv (rw q at c.row_value.ensures)))

pub returns : goal.returns
returns c =
    let q : c.loop-row.row-index ≡ c.args.tables.now.m = omega (arith, front-long c.requires.along) in
    working-end (lent_tables c.args.tables.now) _ (front-along c.requires.along) c.args.values.now c.requires.room c.loop-row.values (rw q at c.loop-row.invariant)
