-- A store beyond the end changes nothing. Assumes nothing.
use native.Mathlib.Omega.{arith}
use mathlib.Core.Bool.{true}
use mathlib.Core.Path.{sym, ap}
use lib.ListN.{set}
use lib.Seq.{set_out}
use Rattle.checks.proofs.repeats.mark.Goals as goal

pub returns-then-at-seen : goal.returns-then-at-seen
returns-then-at-seen c = ap (λ v. set c.args.seen.now v true) c.wide-at.ensures.0

pub returns-else-at-seen : goal.returns-else-at-seen
returns-else-at-seen c = let w = c.wide-at.ensures in sym (set_out _ _ _ (omega arith))
