-- The windows of the rows passed stand in the first places (`Filled`), and behind the last row none is left. Assumes nothing.
use Rattle.frequencies.specs.Reading.{windows_in}
use Rattle.frequencies.specs.Scan.{rows_from}
use Rattle.frequencies.specs.Filling.{Filled, still_to_fill}
use Rattle.frequencies.proofs.fill.fill_rows.Given as goal

abbrev pub invariant-loop-next : goal.invariant-loop-next
invariant-loop-next l = Filled l.bytes l.columns (rows_from l.bytes l.fn.first) (windows_in l.initial.name_places l.initial.name_lengths l.initial.name_doubled l.initial.starts l.initial.ends l.initial.headways l.initial.exacts l.initial.lines) l.next l.i (windows_in l.name_places l.name_lengths l.name_doubled l.starts l.ends l.headways l.exacts l.lines)

abbrev pub decreases-loop-next : goal.decreases-loop-next
decreases-loop-next l = still_to_fill l.bytes l.next
