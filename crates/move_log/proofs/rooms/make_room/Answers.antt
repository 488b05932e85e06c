-- Where there are 64, each row has slid over the oldest move; else nothing changes. Assumes nothing.
use native.Mathlib.Omega.{arith}
use Rattle.paper.specs.Log.{log_in}
use Rattle.move_log.proofs.Room.{log-long}
use Rattle.move_log.proofs.rooms.make_room.Goals as goal

pub bounds-log_sizes-0 : goal.bounds-log_sizes-0
bounds-log_sizes-0 c = omega (arith, (log-long (log_in c.args.log_sizes.now c.args.log_vars.now c.args.log_values.now) c.requires).0)

pub copy_within-requires-clause-in_bounds : goal.copy_within-requires-clause-in_bounds
copy_within-requires-clause-in_bounds c = omega (arith, (log-long (log_in c.args.log_sizes.now c.args.log_vars.now c.args.log_values.now) c.requires).0)

pub copy_within-requires-clause-dest_in_bounds : goal.copy_within-requires-clause-dest_in_bounds
copy_within-requires-clause-dest_in_bounds c = omega (arith, (log-long (log_in c.args.log_sizes.now c.args.log_vars.now c.args.log_values.now) c.requires).0)

pub copy_within-requires-then-log_sizes-ge64-clause-in_bounds : goal.copy_within-requires-then-log_sizes-ge64-clause-in_bounds
copy_within-requires-then-log_sizes-ge64-clause-in_bounds c = omega (arith, (log-long (log_in c.args.log_sizes.now c.args.log_vars.now c.args.log_values.now) c.requires).1)

pub copy_within-requires-then-log_sizes-ge64-clause-dest_in_bounds : goal.copy_within-requires-then-log_sizes-ge64-clause-dest_in_bounds
copy_within-requires-then-log_sizes-ge64-clause-dest_in_bounds c = omega (arith, (log-long (log_in c.args.log_sizes.now c.args.log_vars.now c.args.log_values.now) c.requires).1)

pub copy_within-requires-then-log_sizes-ge64-2-clause-in_bounds : goal.copy_within-requires-then-log_sizes-ge64-2-clause-in_bounds
copy_within-requires-then-log_sizes-ge64-2-clause-in_bounds c = omega (arith, (log-long (log_in c.args.log_sizes.now c.args.log_vars.now c.args.log_values.now) c.requires).2)

pub copy_within-requires-then-log_sizes-ge64-2-clause-dest_in_bounds : goal.copy_within-requires-then-log_sizes-ge64-2-clause-dest_in_bounds
copy_within-requires-then-log_sizes-ge64-2-clause-dest_in_bounds c = omega (arith, (log-long (log_in c.args.log_sizes.now c.args.log_vars.now c.args.log_values.now) c.requires).2)
