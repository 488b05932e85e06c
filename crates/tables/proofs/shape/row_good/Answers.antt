-- The two tests. Assumes nothing.
use mathlib.Core.Bool.{◌&&◌}
use mathlib.Core.Path.{ap, ap₂}
use lib.Dec.{ltb}
use Rattle.tables.proofs.shape.row_good.Goals as goal

pub returns : goal.returns
returns c = ap₂ ◌&&◌ (ap (λ v. ltb v c.args.n) c.wide.ensures.0) c.arity_good.ensures
