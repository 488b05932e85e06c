use Rattle.std.proofs.Common.{arith, ◌≡◌}
use Rattle.tables.specs.Lent.{lent_tables}
use Rattle.routes.proofs.Walks.{front-long, front-along, row_at}
use Rattle.routes.proofs.Sweeps.{passable, sweeping-start, sweeping-next, sweeping-end}
use Rattle.routes.proofs.sweep.input_to_output.Goals as goal

pub flag_moved-requires : goal.flag_moved-requires
flag_moved-requires c =
    let t = lent_tables c.args.tables.now in
    passable t c.args.order.now c.args.index.now.starts.now c.args.index.now.places.now c.args.stored.now c.args.trial.now c.args.flags.now c.requires.along c.requires.index c.args.flags.now c.requires.begun c.args.moves.now c.requires.named

pub loop-row-init : goal.loop-row-init
loop-row-init c =
    let t = lent_tables c.args.tables.now in
    sweeping-start t _ c.args.index.now.starts.now c.args.index.now.places.now c.args.stored.now c.args.trial.now _ (front-along c.requires.along) c.requires.index c.args.flags.now c.requires.begun c.args.moves.now c.requires.named c.flag_moved.ensures

pub turn-requires-clause-row : goal.turn-requires-clause-row
turn-requires-clause-row c =
    let t = lent_tables c.args.tables.now in
    rw c.wide.ensures.0 (row_at t _ (front-along c.requires.along) c.loop-row.row-index (omega (arith, front-long c.requires.along)))

pub loop-row-preserved : goal.loop-row-preserved
loop-row-preserved c =
    let t = lent_tables c.args.tables.now in
    sweeping-next t _ c.args.index.now.starts.now c.args.index.now.places.now c.args.stored.now c.args.trial.now _ (front-along c.requires.along) c.requires.index c.args.flags.now c.requires.begun c.args.moves.now c.requires.named c.flag_moved.ensures c.loop-row.row-index c.loop-row.trial c.loop-row.flags c.loop-row.invariant (omega (arith, front-long c.requires.along)) _ _ (rw c.wide.ensures.0 at c.turn.ensures)

pub returns : goal.returns
returns c =
    let t = lent_tables c.args.tables.now in
    let q : c.loop-row.row-index ≡ c.args.tables.now.m = omega (arith, front-long c.requires.along) in
    sweeping-end t _ c.args.index.now.starts.now c.args.index.now.places.now c.args.stored.now c.args.trial.now _ (front-along c.requires.along) c.requires.index c.args.flags.now c.requires.begun c.args.moves.now c.requires.named c.flag_moved.ensures c.loop-row.trial c.loop-row.flags (rw q at c.loop-row.invariant)
