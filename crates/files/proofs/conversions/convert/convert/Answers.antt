-- The header's refusal is the move's. Assumes nothing.
use Rattle.fields.specs.Places.{version_in}
use Rattle.files.proofs.Early.{left_early}
use Rattle.files.proofs.Moving.{refused-move}
use Rattle.files.proofs.conversions.convert.convert.Goals as goal

pub returns-in_err-size : goal.returns-in_err-size
returns-in_err-size c = let a = c.args in rw (left_early _ c.from_residual.ensures.1) (refused-move (version_in a.from) a.bytes.now c.in_err-size.ensures (version_in a.to) a.file.now)
