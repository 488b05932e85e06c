-- The tests are those of `window_good`, in its order. Assumes nothing.
use mir.Facts.{to_z-of_z}
use Rattle.tables.proofs.Tests.{joined-every}
use Rattle.times.proofs.overlaps.window_good.Goals as goal

pub returns : goal.returns
returns c =
    simp (c.is_blank.ensures, c.is_blank-2.ensures, c.is_blank-3.ensures, to_z-of_z c.ranges.start, to_z-of_z c.ranges.end, to_z-of_z c.ranges.headway)
    (joined-every _ _)
