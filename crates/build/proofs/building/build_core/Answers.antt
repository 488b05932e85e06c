-- A small model has rows of 256 places, and any other has as many as a model can ask. Assumes nothing.
use Rattle.std.proofs.Common.{arith}
use Rattle.build.proofs.building.build_core.Goals as goal

pub build_sized-requires : goal.build_sized-requires
build_sized-requires c = record { room = (omega arith, λ _. c.if-tables-le256.true) }

pub build_sized-requires-else-tables-le256 : goal.build_sized-requires-else-tables-le256
build_sized-requires-else-tables-le256 c = record { room = (omega arith, λ few. few) }
