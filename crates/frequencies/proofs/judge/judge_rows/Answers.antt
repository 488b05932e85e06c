use Rattle.frequencies.proofs.Checking.{since-next, since-end}
use Rattle.frequencies.proofs.judge.judge_rows.Goals as goal

pub loop-j-preserved : goal.loop-j-preserved
loop-j-preserved c = since-next c.loop-j.invariant c.judge_next-j.ensures

pub returns : goal.returns
returns c = since-end c.loop-j.invariant c.in_default.is
