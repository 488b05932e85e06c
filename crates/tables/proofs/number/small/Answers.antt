-- A bound is two tests (`within`). Assumes nothing.
use mir.Facts.{to_z-of_z}
use Rattle.tables.proofs.Numbers.{within}
use Rattle.tables.proofs.number.small.Goals as goal

pub returns : goal.returns
returns c = simp (to_z-of_z c.ranges.coef) (within c.args.coef 999)
