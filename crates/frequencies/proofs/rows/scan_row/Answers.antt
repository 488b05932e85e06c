use Rattle.frequencies.proofs.ByField.{part_none, part-all}
use Rattle.frequencies.proofs.rows.scan_row.Goals as goal

pub loop-row-init : goal.loop-row-init
loop-row-init c = part_none _ _ _ _ c.requires

pub scan_next-row-requires-clause-here : goal.scan_next-row-requires-clause-here
scan_next-row-requires-clause-here c = let w = c.loop-row.invariant.ahead in (rw c.in-Comma.is at w).0

pub scan_next-row-requires-clause-few : goal.scan_next-row-requires-clause-few
scan_next-row-requires-clause-few c = let w = c.loop-row.invariant.ahead in (rw c.in-Comma.is at w).2

pub loop-row-preserved : goal.loop-row-preserved
loop-row-preserved c = c.scan_next-row.ensures.part _ _ c.loop-row.invariant

pub returns : goal.returns
returns c = part-all c.args.bytes.now c.args.from.at c.args.from.line c.args.columns c.loop-row.row c.loop-row.invariant c.in_default.not-Comma
