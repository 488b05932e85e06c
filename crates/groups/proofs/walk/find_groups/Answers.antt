-- After all visits every group is closed (`Sweeping`). Assumes nothing.
use native.Mathlib.Omega.{arith}
use Rattle.order.proofs.Sweeps.{clean-new}
use Rattle.groups.proofs.Sweeping.{swept-found}
use Rattle.groups.proofs.walk.find_groups.Goals as goal

pub visit_all-requires : goal.visit_all-requires
visit_all-requires c = record { laid = c.requires.laid; clean = (c.requires.clean.0, clean-new _ 4097 (omega (arith, c.requires.laid.few)), c.requires.clean.1) }

pub returns : goal.returns
returns c =
    swept-found _ _ c.requires.laid.below _ _ _ c.visit_all.ensures
