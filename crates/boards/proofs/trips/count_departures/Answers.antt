-- The count is that of the windows before this one, and each is counted on (`counted-on`). Assumes nothing.
use Rattle.std.proofs.Common.{[], ap, ◌∙◌, arith, rules}
use mir.Syntax.{w32}
use mir.Val.{SFits}
use mir.Facts.{to_z-of_z}
use Rattle.times.specs.Windows.{start, end, headway}
use Rattle.times.specs.Lent.{lent_windows}
use Rattle.boards.specs.Counting.{counted_on}
use Rattle.boards.proofs.Counts.{counted-on}
use Rattle.boards.proofs.trips.count_departures.Goals as goal

pub loop-i-preserved : goal.loop-i-preserved
loop-i-preserved c =
    let a = c.args in
    let b = lent_windows a.windows.now [] in
    let l = c.loop-i in
    let s : SFits w32 (start b l.i) = search rules in
    let e : SFits w32 (end b l.i) = search rules in
    let h : SFits w32 (headway b l.i) = search rules in
    let d : SFits w32 c.departures_of-departures.result = search rules in
    let given = simp (to_z-of_z s, to_z-of_z e, to_z-of_z h) at c.departures_of-departures.ensures in
    c.counted_on-count.ensures ∙ ap (counted_on l.count) (to_z-of_z d ∙ given)
    ∙ counted-on b l.i l.count (c.requires.numbers_good.good l.i (omega arith)) l.invariant
