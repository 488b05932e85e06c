-- Where none is blank the reason of every variable whose flag is 1 is 0; else the row of makers says which row makes each variable, so what is worked out by
-- it is what the tables say (`Noted`). Assumes nothing.
use mathlib.Core.Path.{sym, ◌∙◌}
use Rattle.tables.specs.Lent.{lent_tables}
use Rattle.whys.proofs.Noted.{all_read, asked-row, plain_row}
use Rattle.whys.proofs.notes.asked_reasons.Goals as goal

pub ask_by-requires-clause-all_read : goal.ask_by-requires-clause-all_read
ask_by-requires-clause-all_read c = all_read (lent_tables c.args.tables.now) c.requires.sound c.args.values.now c.requires.room.0 c.args.by.now c.requires.makers

pub returns-then-none_blank : goal.returns-then-none_blank
returns-then-none_blank c =
    let a = c.args in
    plain_row (lent_tables a.tables.now) a.flags.now a.values.now a.stored.now a.asked.now a.results.now _ (sym c.none_blank.ensures ∙ c.if-none_blank.true) c.ask_plain.ensures

pub returns-else-none_blank : goal.returns-else-none_blank
returns-else-none_blank c =
    let a = c.args in
    asked-row (lent_tables a.tables.now) c.requires.sound a.values.now c.requires.room.0 a.by.now c.requires.makers a.flags.now a.stored.now a.asked.now a.results.now _ c.requires.known
    c.ask_by.ensures
