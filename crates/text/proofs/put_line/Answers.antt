-- The six parts of a line are put one behind the other (`put_then`). Assumes nothing.
use Rattle.std.proofs.Common.{to_z-of_z}
use Rattle.text.proofs.Laid.{put_then}
use Rattle.text.proofs.put_line.Goals as goal

pub returns : goal.returns
returns c =
    put_then (put_then (put_then (put_then (put_then c.put_decimal-a.ensures c.put-b.ensures) (simp (c.from.ensures) at c.put_decimal-c.ensures)) c.put-d.ensures)
    (simp (to_z-of_z c.ranges.value) at c.put_field-e.ensures)) c.put.ensures
