-- The columns packed from the rows that stand are the tables saved (`rows-packed`). Assumes nothing.
use native.Mathlib.Omega.{arith}
use mathlib.Core.Path.{ap, sym, ◌∙◌}
use Rattle.std.proofs.Common.{length-take-le}
use lib.IntN.{ℤ, pos}
use lib.ListN.{get_or, take, replicate, length-replicate}
use Rattle.paper.specs.Lists.{nat}
use Rattle.tables.specs.Lent.{lent_tables}
use Rattle.salvage.proofs.Judging.{vars-packable, coefs-packable, kinds-in, makes-in, params_in, rows-packed}
use Rattle.salvage.proofs.Copied.{over-map, parts-front}
use Rattle.salvage.proofs.save.save_rows.Goals as goal

pub pack-requires : goal.pack-requires
pack-requires c =
    let a = c.args in
    let t = lent_tables a.tables.now in
    let few = (vars-packable _ t _ _ c.requires.judged _ c.requires.listed).few in
    (few, kinds-in _ t _ _ c.requires.judged _ c.requires.listed)

pub pack-requires-2 : goal.pack-requires-2
pack-requires-2 c =
    let a = c.args in
    let t = lent_tables a.tables.now in
    let few = (vars-packable _ t _ _ c.requires.judged _ c.requires.listed).few in
    (few, params_in _ t _ _ c.requires.judged _ c.requires.listed)

pub pack_shape-e-requires-clause-packable : goal.pack_shape-e-requires-clause-packable
pack_shape-e-requires-clause-packable c =
    let a = c.args in
    let t = lent_tables a.tables.now in
    vars-packable _ t _ _ c.requires.judged _ c.requires.listed

pub pack_shape-e-requires-clause-made : goal.pack_shape-e-requires-clause-made
pack_shape-e-requires-clause-made c =
    let a = c.args in
    let t = lent_tables a.tables.now in
    makes-in _ t _ _ c.requires.judged _ c.requires.listed

pub pack_parts-requires-clause-packable : goal.pack_parts-requires-clause-packable
pack_parts-requires-clause-packable c =
    let a = c.args in
    let t = lent_tables a.tables.now in
    coefs-packable _ t _ _ c.requires.judged _ c.requires.listed

pub slice_bounds-vars-end : goal.slice_bounds-vars-end
slice_bounds-vars-end c =
    let a = c.args in
    let t = lent_tables a.tables.now in
    let small = (vars-packable _ t _ _ c.requires.judged _ c.requires.listed).small in
    omega (arith, c.pack_shape-e.ensures.entries, c.pack_shape-e.auto.vars)

pub slice_bounds-saved-end-6 : goal.slice_bounds-saved-end-6
slice_bounds-saved-end-6 c =
    let a = c.args in
    let t = lent_tables a.tables.now in
    let small = (vars-packable _ t _ _ c.requires.judged _ c.requires.listed).small in
    sym (length-take-le c.pack_shape-e.result c.pack_shape-e.new.vars (omega (arith, c.pack_shape-e.ensures.entries, c.pack_shape-e.auto.vars)))

pub slice_bounds-coefs-end : goal.slice_bounds-coefs-end
slice_bounds-coefs-end c =
    let a = c.args in
    let t = lent_tables a.tables.now in
    let small = (vars-packable _ t _ _ c.requires.judged _ c.requires.listed).small in
    omega (arith, c.pack_shape-e.ensures.entries, c.pack_parts.auto.out)

pub slice_bounds-saved-end-7 : goal.slice_bounds-saved-end-7
slice_bounds-saved-end-7 c =
    let a = c.args in
    let t = lent_tables a.tables.now in
    let small = (vars-packable _ t _ _ c.requires.judged _ c.requires.listed).small in
    sym (length-take-le c.pack_shape-e.result c.pack_parts.new.out (omega (arith, c.pack_shape-e.ensures.entries, c.pack_parts.auto.out)))

pub save_packed-requires-clause-packed : goal.save_packed-requires-clause-packed
save_packed-requires-clause-packed c =
    let a = c.args in
    let t = lent_tables a.tables.now in
    let rows = a.rows.now in let shape = c.pack_shape-e in let S = shape.ensures in
    rows-packed _ t _ _ c.requires.judged rows c.requires.listed
    S.entries
    (over-map (nat a.tables.now.kinds.now) 0 rows (replicate 4096 0) (c.pack.ensures 0))
    S.made
    (over-map (λ r. get_or a.tables.now.params.now r (pos 0)) (pos 0) rows (replicate 4096 (pos 0)) (c.pack-2.ensures (pos 0)))
    S.first
    S.count
    S.read
    (ap (λ k. take k c.pack_parts.new.out) S.entries
    ∙ parts-front _ _ _ _ (coefs-packable _ t _ _ c.requires.judged _ c.requires.listed) (replicate 16384 (pos 0)) (omega (arith, length-replicate {A = ℤ} 16384 (pos 0))) c.pack_parts.ensures)
