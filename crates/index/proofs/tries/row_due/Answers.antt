use Rattle.std.proofs.Common.{refl, ◌+◌, ◌∙◌}
use Rattle.order.proofs.Extremes.{max-is}
use Rattle.index.proofs.Tried.{passing-stop, passing-next}
use Rattle.index.proofs.tries.row_due.Goals as goal

pub returns-then-not-reader_right : goal.returns-then-not-reader_right
returns-then-not-reader_right c =
    passing-stop _ _ _ _ _ c.requires _ _ _ c.loop-var.invariant c.loop-var-test.true _ c.wide-v.ensures.0 _ c.if-not-reader_right.ensures refl

pub loop-var-preserved : goal.loop-var-preserved
loop-var-preserved c =
    passing-next _ _ _ _ _ c.requires _ _ _ c.loop-var.invariant c.loop-var-test.true _ c.wide-v.ensures.0 _ c.if-not-reader_right.ensures refl
    _ _ c.wide.ensures.0 c.wide.ensures.1 (c.max-best.ensures ∙ max-is c.loop-var.best (c.wide.result + 1))
