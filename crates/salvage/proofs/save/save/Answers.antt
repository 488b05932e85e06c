-- The rows listed are those flagged, which stand. Assumes nothing.
use native.Mathlib.Omega.{arith}
use mathlib.Core.Path.{refl, sym}
use Rattle.std.proofs.Common.{length-take-le}
use lib.ListN.{replicate}
use Rattle.tables.specs.Lent.{lent_tables}
use Rattle.salvage.proofs.Judging.{vars-packable, rows_few}
use Rattle.salvage.proofs.Copied.{front_of}
use Rattle.salvage.proofs.save.save.Goals as goal

pub list_flagged-k-requires : goal.list_flagged-k-requires
list_flagged-k-requires c =
    let a = c.args in
    let t = lent_tables a.tables.now in
    let few = (vars-packable _ t _ _ c.requires.judged _ refl).few in
    (c.requires.there.0, omega (arith, rows_few _ t _ _ c.requires.judged _ refl), omega arith)

pub slice_bounds-rows-end : goal.slice_bounds-rows-end
slice_bounds-rows-end c =
    let a = c.args in
    let t = lent_tables a.tables.now in
    let few = (vars-packable _ t _ _ c.requires.judged _ refl).few in
    omega (arith, c.list_flagged-k.ensures.0, c.list_flagged-k.auto.list)

pub slice_bounds-save_rows-end : goal.slice_bounds-save_rows-end
slice_bounds-save_rows-end c =
    let a = c.args in
    let t = lent_tables a.tables.now in
    let few = (vars-packable _ t _ _ c.requires.judged _ refl).few in
    sym (length-take-le c.list_flagged-k.result c.list_flagged-k.new.list (omega (arith, c.list_flagged-k.ensures.0, c.list_flagged-k.auto.list)))

pub save_rows-requires-clause-listed : goal.save_rows-requires-clause-listed
save_rows-requires-clause-listed c =
    let a = c.args in
    let t = lent_tables a.tables.now in
    let k = c.list_flagged-k in
    front_of _ (replicate 4096 0) k.result (vars-packable _ t _ _ c.requires.judged _ refl).few k.ensures.1 k.ensures.0
