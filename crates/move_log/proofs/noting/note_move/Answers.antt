-- Room is made first, and then the pairs are written where the next move has its place. Assumes nothing.
use Prim.Native.Nat.{◌+◌}
use native.Mathlib.Omega.{arith}
use Prim.Native.Nat.{min}
use mathlib.Core.Path.{ap, ◌∙◌}
use lib.IntN.{pos}
use lib.ListN.{get_or, length-set}
use Rattle.paper.specs.Log.{log_in}
use Rattle.tables.specs.Lent.{lent_move}
use Rattle.move_log.proofs.Room.{log-long}
use Rattle.move_log.proofs.Noted.{noted-is}
use Rattle.move_log.proofs.noting.note_move.Goals as goal

pub bounds-log_sizes-0 : goal.bounds-log_sizes-0
bounds-log_sizes-0 c = omega (arith, (log-long (log_in c.args.log_sizes.now c.args.log_vars.now c.args.log_values.now) c.requires.fits).0)

pub write_pairs-requires-clause-room : goal.write_pairs-requires-clause-room
write_pairs-requires-clause-room c =
    let k = c.min-k.ensures in let long = log-long (log_in c.args.log_sizes.now c.args.log_vars.now c.args.log_values.now) c.requires.fits in
    let few = c.requires.named.few in let same = c.make_room.auto in
    (omega (arith, k, long.1, few, same.log_vars), omega (arith, k, long.2, few, same.log_values))

pub bounds-log_sizes-0-2 : goal.bounds-log_sizes-0-2
bounds-log_sizes-0-2 c =
    omega (arith, (log-long (log_in c.args.log_sizes.now c.args.log_vars.now c.args.log_values.now) c.requires.fits).0, c.make_room.auto.log_sizes)

pub bounds-log_sizes-k : goal.bounds-log_sizes-k
bounds-log_sizes-k c =
    let k = c.min-k.ensures in let made = c.make_room in
    omega (arith, k, (log-long (log_in c.args.log_sizes.now c.args.log_vars.now c.args.log_values.now) c.requires.fits).0, made.auto.log_sizes, length-set made.new.log_sizes 0 (c.min-k.result + 1))

pub returns : goal.returns
returns c =
    let a = c.args in let made = c.make_room in let told = c.min-k in let wrote = c.write_pairs.ensures in
    noted-is (log_in a.log_sizes.now a.log_vars.now a.log_values.now) (λ v. get_or a.stored.now v (pos 0)) (lent_move a.mv.now)
    (log_in made.new.log_sizes made.new.log_vars made.new.log_values) told.result made.ensures (told.ensures ∙ ap (λ h. min h 63) c.wide.ensures.0) wrote.log_vars_after wrote.log_values_after
