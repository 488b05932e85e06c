-- The fields that were scanned are the first of the row's (`RowPart`), and behind the last of them is no comma. Assumes nothing.
use Rattle.frequencies.specs.Scan.{RowPart, still_to_scan}
use Rattle.frequencies.proofs.rows.scan_row.Given as goal

abbrev pub invariant-loop-row : goal.invariant-loop-row
invariant-loop-row l = RowPart l.bytes l.fn.from.at l.fn.from.line l.columns l.row

abbrev pub decreases-loop-row : goal.decreases-loop-row
decreases-loop-row l = still_to_scan l.bytes l.row.behind
