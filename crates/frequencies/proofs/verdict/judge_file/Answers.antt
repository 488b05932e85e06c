-- The rows of a file are those of its bytes without the line ends at its end (`file-judged`). Assumes nothing.
use Rattle.frequencies.proofs.Deciding.{file-judged}
use Rattle.frequencies.proofs.verdict.judge_file.Goals as goal

pub returns : goal.returns
returns c =
    let a = c.args in
    file-judged a.bytes.now a.room c.if-bytes-gt2147483647.false c.mark_length-mark.ensures.0 c.body_end-end.ensures
    c.judge_body.ensures
