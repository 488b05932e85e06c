-- The tests are those of `shared`, in its order. Assumes nothing.
use mir.Facts.{to_z-of_z}
use Rattle.tables.proofs.Tests.{joined-every}
use Rattle.times.proofs.overlaps.share.Goals as goal

pub returns : goal.returns
returns c = simp (to_z-of_z c.ranges.start, to_z-of_z c.ranges.end, to_z-of_z c.ranges.other_start, to_z-of_z c.ranges.other_end) (joined-every _ _)
