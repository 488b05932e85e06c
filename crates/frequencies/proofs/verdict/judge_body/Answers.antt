-- The header first, and then the rows behind it, of which nothing has been found yet (`body-judged`). Assumes nothing.
use mathlib.Core.Path.{sym, ◌∙◌}
use Rattle.tables.proofs.Answered.{err-said}
use Rattle.frequencies.proofs.Deciding.{body-started, body-refused, body-judged}
use Rattle.frequencies.proofs.verdict.judge_body.Goals as goal

pub judge_rows-j-requires : goal.judge_rows-j-requires
judge_rows-j-requires c =
    let h = c.read_header-h in let a = c.args in
    body-started a.bytes.now a.mark h.result h.ensures c.first_bad.result c.first_bad.ensures

pub returns-in_err-count : goal.returns-in_err-count
returns-in_err-count c =
    let h = c.read_header-h in let a = c.args in let b = c.first_bad in
    rw (err-said _ _ c.from_residual.ensures.1) (body-refused a.bytes.now a.mark h.result h.ensures a.room b.result b.ensures c.judge_rows-j.result c.judge_rows-j.ensures
    (sym c.in_err-count.was ∙ c.decide.ensures))

pub returns : goal.returns
returns c =
    let h = c.read_header-h in let a = c.args in let b = c.first_bad in
    body-judged a.bytes.now a.mark h.result h.ensures a.room b.result b.ensures c.judge_rows-j.result c.judge_rows-j.ensures
    (sym c.in_ok-count.was ∙ c.decide.ensures)
