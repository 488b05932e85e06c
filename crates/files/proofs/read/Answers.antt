-- What is read without bounds, of which version 1 has none (`read-plainly`). Assumes nothing.
use Rattle.files.proofs.Answered.{read-plainly}
use Rattle.files.proofs.read.Goals as goal

pub returns : goal.returns
returns c = read-plainly _ _ _ c.read_as.result _ c.read_as.ensures
