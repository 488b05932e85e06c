-- The rows are as long as a model of n variables asks, and of zeros. Assumes nothing.
use Rattle.order.proofs.Sweeps.{clean-new}
use Rattle.build.proofs.building.build_sized.Goals as goal

pub build_over-requires : goal.build_over-requires
build_over-requires g c = record {
  makers = λ few. (clean-new c.args.tables.now.n _ (c.requires.room.1 few)).long;
  numbers = λ few. clean-new c.args.tables.now.n _ (c.requires.room.1 few);
}
