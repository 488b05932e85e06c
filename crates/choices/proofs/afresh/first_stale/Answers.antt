-- The stored values are followed in a row of their own, and compared with what comes out (`stale-least`). Assumes nothing.
use Rattle.std.proofs.Common.{pos, refl, ap, ◌∙◌}
use Rattle.std.proofs.Math.ListN.{replicate}
use Rattle.integers.specs.Below.{if_below}
use Rattle.tables.specs.Lent.{lent_tables}
use Rattle.paper.proofs.Sizes.{sized-facts}
use Rattle.order.proofs.Sweeps.{clean-new}
use Rattle.choices.proofs.Renewed.{copy-long, stale-least}
use Rattle.choices.proofs.afresh.first_stale.Goals as goal

pub copy_values-requires : goal.copy_values-requires
copy_values-requires c =
    let t = lent_tables c.args.tables.now in
    (c.requires.there, (sized-facts t c.requires.sound.sized).n-most)

pub follow_choices-requires-clause-room : goal.follow_choices-requires-clause-room
follow_choices-requires-clause-room c =
    let t = lent_tables c.args.tables.now in
    copy-long t c.args.stored.now (replicate 4096 (pos 0)) c.requires.there (sized-facts t c.requires.sound.sized).n-most c.copy_values.ensures

pub follow_choices-requires-clause-clean : goal.follow_choices-requires-clause-clean
follow_choices-requires-clause-clean c =
    let t = lent_tables c.args.tables.now in
    clean-new _ 4096 (sized-facts t c.requires.sound.sized).n-most

pub first_other-requires : goal.first_other-requires
first_other-requires c =
    let t = lent_tables c.args.tables.now in
    (c.requires.there, (sized-facts t c.requires.sound.sized).n-most)

pub returns : goal.returns
returns c =
    let t = lent_tables c.args.tables.now in
    c.first_other.ensures ∙ ap (if_below c.args.tables.now.n) (stale-least t c.args.stored.now (replicate 4096 (pos 0)) c.requires.there (sized-facts t c.requires.sound.sized).n-most c.copy_values.ensures c.follow_choices.ensures refl)
