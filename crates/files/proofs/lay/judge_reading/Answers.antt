-- A wrong header is refused, then short rows; else the size is told. Assumes nothing.
use Rattle.paper.specs.File.{counted}
use Rattle.fields.specs.Places.{version_in}
use Rattle.files.specs.Lent.{lent_contents}
use Rattle.files.proofs.Early.{left_early}
use Rattle.files.proofs.Answered.{refused-header, short-rows, room-enough}
use Rattle.files.proofs.lay.judge_reading.Goals as goal

pub returns-in_err-size : goal.returns-in_err-size
returns-in_err-size c =
    let a = c.args in
    rw (left_early _ c.from_residual.ensures.1)
    (refused-header (version_in a.version) a.bytes.now (counted 0 0 0 (lent_contents a.rows.now a.starts.now a.bounds.now)) c.in_err-size.ensures)

pub returns-then-not-rows_held : goal.returns-then-not-rows_held
returns-then-not-rows_held c =
    let a = c.args in
    rw c.refused.ensures
    (short-rows (version_in a.version) a.bytes.now (counted 0 0 0 (lent_contents a.rows.now a.starts.now a.bounds.now)) c.in_ok-size.ensures (rw (← c.rows_held.ensures) c.if-not-rows_held.true))

pub returns : goal.returns
returns c =
    let a = c.args in
    room-enough (version_in a.version) a.bytes.now (counted 0 0 0 (lent_contents a.rows.now a.starts.now a.bounds.now)) c.in_ok-size.ensures (rw (← c.rows_held.ensures) c.if-not-rows_held.false)
