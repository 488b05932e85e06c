-- The product has room, and what is left of a division by 2048 is below it. Assumes nothing.
use Prim.Native.Nat.{◌*◌, ◌/◌, ◌%◌}
use native.Mathlib.Omega.{arith}
use mathlib.Core.Path.{ap, ◌∙◌}
use mir.Syntax.{w32}
use mir.Val.{of_z}
use mir.Facts.{to_z-of_z}
use Rattle.formulas.specs.Buckets.{bucket_of}
use Rattle.formulas.proofs.buckets.bucket.Goals as goal

pub returns : goal.returns
unfolding bucket_of
returns c = (ap (λ b. b * 2654435769 / 2097152 % 2048) (c.cast_unsigned-bits.ensures ∙ ap (of_z w32) (to_z-of_z c.ranges.x)), omega arith)
