-- The new values are worked out in a row of their own (`renewed`), and with the flags and these values the rows are as the route leaves them
-- (`followed-routed`). Assumes nothing.
use Rattle.std.proofs.Common.{arith, pos}
use lib.ListN.{replicate}
use Rattle.tables.specs.Lent.{lent_tables}
use Rattle.paper.specs.Calls.{route_of}
use Rattle.paper.proofs.Sizes.{sized-facts}
use Rattle.order.proofs.Sweeps.{clean-new}
use Rattle.closed_routes.proofs.Follows.{renewed, flagged-long, followed-routed}
use Rattle.closed_routes.proofs.followed.follow_route.Goals as goal

pub copy_values-requires : goal.copy_values-requires
copy_values-requires c =
    let t = lent_tables c.args.tables.now in
    (c.requires.begun.in-trial, (sized-facts t c.requires.steady.sound.sized).n-most)

pub follow_choices-requires-clause-room : goal.follow_choices-requires-clause-room
follow_choices-requires-clause-room c =
    let t = lent_tables c.args.tables.now in
    omega (arith, (sized-facts t c.requires.steady.sound.sized).n-most, c.copy_values.auto.to)

pub follow_choices-requires-clause-clean : goal.follow_choices-requires-clause-clean
follow_choices-requires-clause-clean c =
    let t = lent_tables c.args.tables.now in
    clean-new c.args.tables.now.n 4096 (sized-facts t c.requires.steady.sound.sized).n-most

pub flag_evaluated-requires-clause-renewed : goal.flag_evaluated-requires-clause-renewed
flag_evaluated-requires-clause-renewed c =
    let t = lent_tables c.args.tables.now in
    renewed t c.args.stored.now c.args.trial.now c.args.flags.now c.requires.steady c.requires.begun (replicate 4096 (pos 0)) _ _ _
    (sized-facts t c.requires.steady.sound.sized).n-most c.copy_values.ensures c.follow_choices.ensures

pub take_values-requires : goal.take_values-requires
take_values-requires c =
    let t = lent_tables c.args.tables.now in (
      flagged-long t c.args.stored.now c.args.trial.now c.args.flags.now c.requires.steady c.requires.begun _ c.args.asked.now _ c.flag_evaluated.ensures,
      (renewed t c.args.stored.now c.args.trial.now c.args.flags.now c.requires.steady c.requires.begun (replicate 4096 (pos 0)) _ _ _
          (sized-facts t c.requires.steady.sound.sized).n-most c.copy_values.ensures c.follow_choices.ensures).in-values,
      c.requires.begun.in-trial,
    )

pub returns : goal.returns
returns c =
    let t = lent_tables c.args.tables.now in
    followed-routed t c.args.stored.now c.args.trial.now c.args.flags.now c.requires.steady c.requires.begun (route_of c.args.route) c.args.asked.now _ _ _
    (renewed t c.args.stored.now c.args.trial.now c.args.flags.now c.requires.steady c.requires.begun (replicate 4096 (pos 0)) _ _ _
    (sized-facts t c.requires.steady.sound.sized).n-most c.copy_values.ensures c.follow_choices.ensures)
    c.flag_evaluated.ensures c.take_values.ensures
