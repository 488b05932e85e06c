use native.Mathlib.Omega.{arith}
use Rattle.tables.proofs.Answered.{below-fits}
use Rattle.checks.proofs.moves.move_checks.Goals as goal

pub none_fails-requires : goal.none_fails-requires
none_fails-requires c = below-fits _ _ c.first_unmovable.ensures.below (omega arith)
