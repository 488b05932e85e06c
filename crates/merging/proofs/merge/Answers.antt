-- Past the test there is room for totals and tallies. Assumes nothing.
use Rattle.std.proofs.Common.{sym}
use Rattle.merging.proofs.Fits.{merge-roomy, merge-tallies}
use Rattle.merging.proofs.merge.Goals as goal

pub add_tallies-requires : goal.add_tallies-requires
add_tallies-requires c =
    let a = c.args in
    let h = sym c.if-not-merge_fits.ensures in
    let k = merge-roomy a.first a.second a.first_by_number.now a.second_by_number.now a.by_number.now h in
    (k.in-first, k.in-second, k.in_row, merge-tallies a.first a.second a.first_by_number.now a.second_by_number.now a.by_number.now h)
