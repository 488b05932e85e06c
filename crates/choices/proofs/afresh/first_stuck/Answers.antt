-- The stored values with the move put in are followed in a row of their own (`undetermined-least`). Assumes nothing.
use Rattle.std.proofs.Common.{pos, refl, ap, ◌∙◌}
use Rattle.std.proofs.Math.ListN.{replicate}
use Rattle.integers.specs.Below.{if_below}
use Rattle.tables.specs.Lent.{lent_tables, lent_move}
use Rattle.paper.proofs.Sizes.{sized-facts}
use Rattle.rows.proofs.Put.{pairs-more}
use Rattle.order.proofs.Sweeps.{clean-new}
use Rattle.choices.proofs.Renewed.{copy-long, put_copy, put-long, undetermined-least}
use Rattle.choices.proofs.afresh.first_stuck.Goals as goal

pub copy_values-requires : goal.copy_values-requires
copy_values-requires c =
    let t = lent_tables c.args.tables.now in
    let few = (sized-facts t c.requires.sound.sized).n-most in
    (c.requires.there, few)

pub put_move-requires : goal.put_move-requires
put_move-requires c =
    let t = lent_tables c.args.tables.now in
    let few = (sized-facts t c.requires.sound.sized).n-most in
    pairs-more c.args.tables.now.n _ (lent_move c.args.mv.now) c.requires.fits (copy-long t c.args.stored.now (replicate 4096 (pos 0)) c.requires.there few c.copy_values.ensures)

pub follow_choices-requires-clause-room : goal.follow_choices-requires-clause-room
follow_choices-requires-clause-room c =
    let t = lent_tables c.args.tables.now in
    let few = (sized-facts t c.requires.sound.sized).n-most in
    let put = put_copy t c.args.stored.now (replicate 4096 (pos 0)) c.requires.there few c.copy_values.ensures (lent_move c.args.mv.now) c.requires.fits c.put_move.ensures in
    put-long t c.args.stored.now (replicate 4096 (pos 0)) c.requires.there few (lent_move c.args.mv.now) c.requires.fits put

pub follow_choices-requires-clause-clean : goal.follow_choices-requires-clause-clean
follow_choices-requires-clause-clean c =
    let t = lent_tables c.args.tables.now in
    let few = (sized-facts t c.requires.sound.sized).n-most in
    clean-new _ 4096 few

pub first_waiting-requires : goal.first_waiting-requires
first_waiting-requires c = (sized-facts (lent_tables c.args.tables.now) c.requires.sound.sized).n-most

pub returns : goal.returns
returns c =
    let t = lent_tables c.args.tables.now in let stored = c.args.stored.now in let mv = lent_move c.args.mv.now in
    let few = (sized-facts t c.requires.sound.sized).n-most in
    let put = put_copy t stored (replicate 4096 (pos 0)) c.requires.there few c.copy_values.ensures mv c.requires.fits c.put_move.ensures in
    c.first_waiting.ensures
    ∙ ap (if_below t.n) (undetermined-least t stored (replicate 4096 (pos 0)) c.requires.there few mv c.requires.fits put c.follow_choices.ensures refl)
