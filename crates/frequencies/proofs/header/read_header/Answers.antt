-- Five names found, and the row scanned with their columns (`headed`). Assumes nothing.
use Rattle.frequencies.proofs.Naming.{headed}
use Rattle.frequencies.proofs.header.read_header.Goals as goal

pub returns : goal.returns
returns c =
    let a = c.args in
    rw c.row_behind.ensures (headed a.bytes.now a.at c.find-trip.ensures
    c.find-start.ensures c.find-end.ensures
    c.find-headway.ensures c.find-exact.ensures c.scan_row-row.ensures)
