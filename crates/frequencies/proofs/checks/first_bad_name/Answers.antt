use Rattle.std.proofs.Common.{sym, ◌∙◌, arith}
use Rattle.paper.proofs.Scan.{scan-some, scan-none}
use Rattle.frequencies.proofs.checks.first_bad_name.Goals as goal

pub returns-then-not-name_good : goal.returns-then-not-name_good
returns-then-not-name_good c = scan-some _ _ _ c.loop-i.invariant (omega arith) (sym c.name_good.ensures ∙ c.if-not-name_good.true)

pub returns : goal.returns
returns c = scan-none _ _ _ c.loop-i.invariant (omega arith)
