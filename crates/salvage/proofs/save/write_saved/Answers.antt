-- No room for the file or the list is refused before anything is written; else both are written whole (`Outcome`). Assumes nothing.
use native.Mathlib.Omega.{arith}
use mathlib.Core.Bool.{false}
use mathlib.Core.Path.{◌≡◌}
use lib.ListN.{get_or}
use Rattle.tables.specs.Lent.{lent_tables}
use Rattle.damage.specs.Flags.{flag_wanted}
use Rattle.damage.proofs.Stored.{those-most}
use Rattle.paper.specs.File.{bounds_from}
use Rattle.salvage.proofs.Outcome.{ready-sized, ready-few, ready-short, ready-taken, ready-done, not-both}
use Rattle.salvage.proofs.save.write_saved.Goals as goal

pub ends_at-length-requires : goal.ends_at-length-requires
ends_at-length-requires c =
    let a = c.args in
    let t = lent_tables a.tables.now in
    let h = ready-sized _ _ t _ _ _ c.requires.ready in (omega arith, omega arith, omega arith)

pub overflow_add-fits : goal.overflow_add-fits
overflow_add-fits c =
    let a = c.args in
    let t = lent_tables a.tables.now in
    let h = ready-sized _ _ t _ _ _ c.requires.ready in let f = ready-few _ _ t _ _ _ c.requires.ready in
    let p = c.count_flagged-rows.ensures in let q = c.count_flagged-values.ensures in
    omega (arith, those-most (λ i. flag_wanted false (get_or a.row.now i false)) a.m, those-most (λ i. flag_wanted false (get_or a.taken.now i false)) a.tables.now.n)

pub returns-then-not-fits : goal.returns-then-not-fits
returns-then-not-fits c =
    let a = c.args in
    let t = lent_tables a.tables.now in
    let long : c.ends_at-length.result ≡ bounds_from 24 t.n t.m t.e = omega (arith, c.ends_at-length.ensures) in
    rw c.refused.ensures (ready-short _ _ t _ _ _ c.requires.ready a.file.now a.list.now long c.count_flagged-rows.ensures c.count_flagged-values.ensures c.if-not-fits.true)

pub returns-in_err-write : goal.returns-in_err-write
returns-in_err-write c =
    let a = c.args in
    let t = lent_tables a.tables.now in
    let long : c.ends_at-length.result ≡ bounds_from 24 t.n t.m t.e = omega (arith, c.ends_at-length.ensures) in
    let taken = ready-taken _ _ t _ _ _ c.requires.ready a.file.now a.list.now long c.count_flagged-rows.ensures c.count_flagged-values.ensures c.if-not-fits.false c.in_err-write.ensures in
    absurd (not-both taken)

pub returns : goal.returns
returns c =
    let a = c.args in
    let t = lent_tables a.tables.now in
    let long : c.ends_at-length.result ≡ bounds_from 24 t.n t.m t.e = omega (arith, c.ends_at-length.ensures) in
    ready-done _ _ t _ _ _ c.requires.ready a.file.now a.list.now long c.count_flagged-rows.ensures c.count_flagged-values.ensures c.if-not-fits.false
    c.list_unset.ensures c.write.ensures
