use Rattle.fields.proofs.Widths.{stored-start, stored_next, stored-end}
use Rattle.fields.proofs.put.Goals as goal

pub loop-k-init : goal.loop-k-init
loop-k-init c = stored-start

pub loop-k-preserved : goal.loop-k-preserved
loop-k-preserved c = rw c.split-low.ensures (stored_next c.loop-k.invariant 4 c.loop-k-test.true c.requires.0)

pub returns : goal.returns
returns c = stored-end c.loop-k.invariant c.loop-k-test.false
