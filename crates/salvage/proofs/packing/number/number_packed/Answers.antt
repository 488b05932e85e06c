-- The row of makers is what numbering asks for. Assumes nothing.
use Rattle.std.proofs.Common.{replicate}
use Rattle.tables.proofs.Made.{makers-filled}
use Rattle.order.specs.Formed.{bare_lent}
use Rattle.order.proofs.Sweeps.{clean-new}
use Rattle.salvage.proofs.packing.number.number_packed.Goals as goal

pub find_numbers-requires-clause-makers : goal.find_numbers-requires-clause-makers
find_numbers-requires-clause-makers c =
    let t = c.args.tables.now in makers-filled (bare_lent t) (replicate 4096 0) _ (clean-new t.n 4096 c.requires.formed.few).long c.makers.ensures
