-- The row of makers says which row makes each variable, so what is worked out by it is what the tables say: first as if no value were blank, then of the blank ones (`Noted`).
-- Assumes nothing.
use borrow.Author.Rules.{rules}
use Rattle.paper.proofs.Sizes.{sized-facts}
use Rattle.tables.specs.Lent.{lent_tables}
use Rattle.whys.proofs.Noted.{all_read, noted-row}
use Rattle.whys.proofs.notes.note_reasons.Goals as goal

pub note_blanks-requires-clause-all_read : goal.note_blanks-requires-clause-all_read
note_blanks-requires-clause-all_read c = all_read (lent_tables c.args.tables.now) c.requires.sound c.args.values.now c.requires.room.0 c.args.by.now c.requires.makers

pub note_blanks-requires-clause-n_bound : goal.note_blanks-requires-clause-n_bound
note_blanks-requires-clause-n_bound c = ((sized-facts (lent_tables c.args.tables.now) c.requires.sound.sized).n-most, c.requires.room.0, c.requires.room.1, search rules)

pub returns : goal.returns
returns c =
    let a = c.args in
    noted-row (lent_tables a.tables.now) c.requires.sound a.values.now c.requires.room.0 a.by.now c.requires.makers a.flags.now a.reasons.now _ _ c.note_plain.ensures c.note_blanks.ensures
