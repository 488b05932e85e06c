-- The tests are those of `sized`, in its order. Assumes nothing.
use mathlib.Core.Bool.{◌&&◌}
use mathlib.Core.Path.{ap}
use lib.Dec.{leb}
use lib.ListN.{length}
use Rattle.tables.proofs.Tests.{joined-every}
use Rattle.tables.proofs.size.sizes.Goals as goal

pub returns : goal.returns
returns c = ap (◌&& leb c.args.tables.now.n (length c.args.values.now)) (joined-every _ _)
