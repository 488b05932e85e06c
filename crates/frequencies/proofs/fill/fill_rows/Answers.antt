use Rattle.frequencies.proofs.Filling.{filled_none, filled_next, filled-all}
use Rattle.frequencies.proofs.fill.fill_rows.Goals as goal

pub loop-next-init : goal.loop-next-init
loop-next-init c = filled_none _ _ _ _ c.requires.here c.requires.room

pub scan_row-row-requires : goal.scan_row-row-requires
scan_row-row-requires c = (rw c.in-Some.is at c.loop-next.invariant).here.0

pub loop-next-preserved : goal.loop-next-preserved
loop-next-preserved c =
    rw c.row_behind-next.ensures
    (filled_next c.args.bytes.now c.args.columns c.in-Some.place (rw c.in-Some.is at c.loop-next.invariant) c.scan_row-row.result c.scan_row-row.ensures _ c.put_window.ensures)

pub returns : goal.returns
returns c = filled-all c.args.bytes.now c.args.columns (rw c.in_default.is at c.loop-next.invariant)
