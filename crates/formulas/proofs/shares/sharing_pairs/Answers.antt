use native.Mathlib.Omega.{arith}
use Rattle.formulas.proofs.Pairs.{turned_none}
use Rattle.formulas.proofs.shares.sharing_pairs.Goals as goal

pub loop-i-init : goal.loop-i-init
loop-i-init c = (omega arith, turned_none _ c.requires)
