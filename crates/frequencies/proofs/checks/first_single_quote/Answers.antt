use Rattle.std.proofs.Common.{sym, ◌∙◌, arith}
use Rattle.paper.proofs.Scan.{scan-some, scan-none}
use Rattle.frequencies.proofs.checks.first_single_quote.Goals as goal

pub returns-then-not-double_good : goal.returns-then-not-double_good
returns-then-not-double_good c = scan-some _ _ _ c.loop-i.invariant (omega arith) (sym c.double_good.ensures ∙ c.if-not-double_good.true)

pub returns : goal.returns
returns c = scan-none _ _ _ c.loop-i.invariant (omega arith)
