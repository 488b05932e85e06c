-- With every flag 1, each variable has the reason of its value (`all_shown`). Assumes nothing.
use native.Mathlib.Omega.{arith}
use Rattle.paper.proofs.Sizes.{sized-facts}
use Rattle.tables.proofs.Made.{sound-makes}
use Rattle.rows.specs.Changes.{values_of}
use Rattle.tables.specs.Lent.{lent_tables}
use Rattle.whys.proofs.Noted.{makers-new, all_shown}
use Rattle.whys.proofs.notes.first_reasons.Goals as goal

pub makers-requires-clause-m_in_bounds : goal.makers-requires-clause-m_in_bounds
makers-requires-clause-m_in_bounds c = let z = sized-facts (lent_tables c.args.tables.now) c.requires.sound.sized in (z.makes, z.n-most, omega (arith, z.n-most, z.m-most))

pub makers-requires-clause-all_below : goal.makers-requires-clause-all_below
makers-requires-clause-all_below c = sound-makes (lent_tables c.args.tables.now) c.requires.sound

pub note_reasons-requires-clause-room : goal.note_reasons-requires-clause-room
note_reasons-requires-clause-room c = (c.requires.room.0, (sized-facts (lent_tables c.args.tables.now) c.requires.sound.sized).n-most, c.requires.room.1)

pub note_reasons-requires-clause-makers : goal.note_reasons-requires-clause-makers
note_reasons-requires-clause-makers c = makers-new (lent_tables c.args.tables.now) c.requires.sound _ c.makers.ensures

pub returns : goal.returns
returns c = all_shown (lent_tables c.args.tables.now) c.requires.sound (values_of c.args.values.now) c.args.reasons.now _ c.note_reasons.ensures
