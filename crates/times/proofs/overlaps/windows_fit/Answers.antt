-- The tests are those of `windows_fit`, in its order. Assumes nothing.
use Rattle.tables.proofs.Tests.{joined-every}
use Rattle.times.proofs.overlaps.windows_fit.Goals as goal

pub returns : goal.returns
returns c = joined-every _ _
