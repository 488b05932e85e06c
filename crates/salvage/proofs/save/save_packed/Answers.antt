-- With the row of makers of the tables saved, the start values kept are the paper's (`Starts`). Assumes nothing.
use native.Mathlib.Omega.{arith}
use mathlib.Core.Bool.{false}
use lib.ListN.{replicate}
use Rattle.tables.specs.Lent.{lent_tables}
use Rattle.tables.proofs.Made.{makers-filled, sound-makes}
use Rattle.order.proofs.Sweeps.{clean-new}
use Rattle.salvage.proofs.Starts.{packed-sized, packed-sound, starts-ready}
use Rattle.salvage.proofs.save.save_packed.Goals as goal

pub makers-requires-clause-m_in_bounds : goal.makers-requires-clause-m_in_bounds
makers-requires-clause-m_in_bounds c =
    let a = c.args in
    let t = lent_tables a.tables.now in
    let h = packed-sized _ _ t _ _ c.requires.packed in
    (omega arith, (clean-new a.tables.now.n 4096 h.n-most).long, omega arith)

pub makers-requires-clause-all_below : goal.makers-requires-clause-all_below
makers-requires-clause-all_below c =
    let a = c.args in
    let t = lent_tables a.tables.now in
    sound-makes t (packed-sound _ _ t _ _ c.requires.packed)

pub write_saved-requires-clause-ready : goal.write_saved-requires-clause-ready
write_saved-requires-clause-ready c =
    let a = c.args in
    let t = lent_tables a.tables.now in
    let h = packed-sized _ _ t _ _ c.requires.packed in
    starts-ready _ _ t _ _ c.requires.packed _ (makers-filled t (replicate 4096 0) _ (clean-new a.tables.now.n 4096 h.n-most).long c.makers.ensures) (replicate 4096 false) c.keep_starts.ensures.say c.keep_starts.ensures.put
