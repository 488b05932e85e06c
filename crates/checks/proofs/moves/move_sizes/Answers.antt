-- The tests are those of `move_fits`, in its order. Assumes nothing.
use Rattle.tables.proofs.Tests.{joined-every}
use Rattle.checks.proofs.moves.move_sizes.Goals as goal

pub returns : goal.returns
returns c = joined-every _ _
