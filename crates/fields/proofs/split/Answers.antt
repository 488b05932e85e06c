-- The bytes are those of the paper, in its order. Assumes nothing.
use mathlib.Core.Path.{refl}
use Rattle.fields.proofs.split.Goals as goal

pub returns : goal.returns
returns c = refl
