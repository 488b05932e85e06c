-- Both comparisons of bits are those of the numbers. Assumes nothing.
use mir.Facts.{to_z-of_z}
use Rattle.checks.proofs.bounds.between.Goals as goal

pub returns : goal.returns
returns c = simp (to_z-of_z c.ranges.low, to_z-of_z c.ranges.value, to_z-of_z c.ranges.high)
