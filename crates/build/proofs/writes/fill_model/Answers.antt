-- The numbers, the order and the index first, then the start values, over them every row along that order, and over these values the reasons; the log's first size becomes 0.
-- Assumes nothing.
use mathlib.Core.Path.{refl}
use Rattle.order.proofs.Bare.{formed-of}
use Rattle.tables.specs.Lent.{lent_tables}
use Rattle.index.proofs.Known.{entries-laid}
use Rattle.chains.proofs.Kinded.{formed-kinded}
use Rattle.fills.proofs.Given.{built-given}
use Rattle.build.specs.Buildable.{to_fill}
use Rattle.build.proofs.Built.{numbers-left, order-left, workable, stored-left}
use Rattle.build.proofs.writes.fill_model.Goals as goal

pub write_shared_order-requires-clause-formed : goal.write_shared_order-requires-clause-formed
write_shared_order-requires-clause-formed c = let t = lent_tables c.args.tables.now in formed-kinded t (formed-of t c.requires.buildable.sound)

pub write_readers-requires-clause-laid : goal.write_readers-requires-clause-laid
write_readers-requires-clause-laid c = entries-laid _ c.requires.buildable.sound

pub work_all-requires : goal.work_all-requires
work_all-requires c = workable _ _ c.requires.buildable _ c.copy_values.ensures _ c.write_shared_order.ensures

pub returns-clause-numbers_after : goal.returns-clause-numbers_after
returns-clause-numbers_after c = numbers-left _ _ c.requires.buildable _ c.copy_numbers.ensures

pub returns-clause-order_after : goal.returns-clause-order_after
returns-clause-order_after c = order-left _ _ c.requires.buildable _ c.write_shared_order.ensures

pub returns-clause-stored_after : goal.returns-clause-stored_after
returns-clause-stored_after c = stored-left _ _ c.requires.buildable _ c.copy_values.ensures _ c.work_all.ensures

pub returns-clause-reasons_after : goal.returns-clause-reasons_after
returns-clause-reasons_after c =
    let a = c.args in let b = c.requires.buildable in
    let l = to_fill a.tables.now a.starts.now a.numbers.now a.order.now a.stored.now a.reader_starts.now a.reader_places.now a.reasons.now a.log_sizes.now in
    built-given l.tables b.sound l refl b.determined _ (stored-left l _ b _ c.copy_values.ensures _ c.work_all.ensures) l.reasons _ c.first_reasons.ensures
