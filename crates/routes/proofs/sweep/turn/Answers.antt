use Rattle.std.proofs.Common.{arith}
use Rattle.std.proofs.Math.ListN.{length-set}
use Rattle.tables.specs.Lent.{lent_tables}
use Rattle.paper.proofs.Sizes.{sized-facts}
use Rattle.paper.proofs.Accept.{sound-row}
use Rattle.routes.proofs.Walks.{row_fits}
use Rattle.routes.proofs.Flags.{section-of}
use Rattle.routes.proofs.sweep.turn.Goals as goal

-- the row makes a variable, which stands in the other rows
pub offset_bounds-tables-r : goal.offset_bounds-tables-r
offset_bounds-tables-r c =
    let t = lent_tables c.args.tables.now in
    omega (arith, c.requires.row, (sized-facts t c.requires.sound.sized).makes)

pub bounds-tables-r : goal.bounds-tables-r
bounds-tables-r c =
    let t = lent_tables c.args.tables.now in
    omega (arith, c.requires.row, (sized-facts t c.requires.sound.sized).makes)

pub bounds-flags-u : goal.bounds-flags-u
bounds-flags-u c =
    let t = lent_tables c.args.tables.now in
    omega (arith, c.wide-u.ensures.0, (sound-row t c.requires.sound c.args.r c.requires.row).makes, c.requires.room.2)

pub row_value-requires : goal.row_value-requires
row_value-requires c =
    let t = lent_tables c.args.tables.now in
    row_fits t c.requires.sound c.args.r c.requires.row c.args.trial.now c.requires.room.1

pub bounds-trial-u : goal.bounds-trial-u
bounds-trial-u c =
    let t = lent_tables c.args.tables.now in
    omega (arith, c.wide-u.ensures.0, (sound-row t c.requires.sound c.args.r c.requires.row).makes, c.requires.room.1)

pub moved-requires : goal.moved-requires
moved-requires c =
    let t = lent_tables c.args.tables.now in
    let low = (sound-row t c.requires.sound c.args.r c.requires.row).makes in
    (omega (arith, c.wide-u.ensures.0, low, c.requires.room.0), simp length-set (omega (arith, c.wide-u.ensures.0, low, c.requires.room.1)))

pub flag_readers-requires : goal.flag_readers-requires
flag_readers-requires c =
    let t = lent_tables c.args.tables.now in
    rw c.wide-u.ensures.0 (section-of t c.requires.sound c.args.index.now.starts.now c.args.index.now.places.now c.requires.index _ _ (sound-row t c.requires.sound c.args.r c.requires.row).makes c.requires.room.2)
