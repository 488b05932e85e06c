-- The variables of a row that can be read have values. Assumes nothing.
use Rattle.paper.proofs.Scan.{part_same}
use Rattle.whys.proofs.Rows.{reads-within}
use Rattle.whys.proofs.reasoned.row_reason.Goals as goal

pub invariant_of-row : goal.invariant_of-row
invariant_of-row c = record { within = rw (part_same c.args.tables.now.vars.now _ _ _ _ c.wide-first.ensures.0 c.wide.ensures.0) (reads-within c.requires) }
