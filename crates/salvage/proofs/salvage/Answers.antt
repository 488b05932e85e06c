-- A refused header decides. Assumes nothing.
use Rattle.paper.specs.Checks.{accepted, by_lines}
use Rattle.paper.specs.File.{version1, head_lines}
use Rattle.files.proofs.Early.{left_early}
use Rattle.files.proofs.HeaderAnswered.{turned}
use Rattle.salvage.proofs.Outcome.{salvage-headed}
use Rattle.salvage.proofs.salvage.Goals as goal

pub returns-in_err-size : goal.returns-in_err-size
returns-in_err-size c =
    let a = c.args in
    rw (left_early _ c.from_residual.ensures.1)
    (salvage-headed a.bytes.now a.file.now a.list.now (turned a.bytes.now (by_lines (head_lines version1 a.bytes.now) accepted) c.in_err-size.ensures))
