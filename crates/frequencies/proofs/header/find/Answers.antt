use Rattle.frequencies.proofs.Naming.{seeking-start, seeking-next, seeking-end}
use Rattle.frequencies.proofs.header.find.Goals as goal

pub loop-sought-init : goal.loop-sought-init
loop-sought-init c = seeking-start _ _ _ c.requires

pub find_next-sought-requires-clause-here : goal.find_next-sought-requires-clause-here
find_next-sought-requires-clause-here c = (rw c.in-Comma.is at c.loop-sought.invariant.few).0

pub find_next-sought-requires-clause-few : goal.find_next-sought-requires-clause-few
find_next-sought-requires-clause-few c = let f = rw c.in-Comma.is at c.loop-sought.invariant.few in (f.1, f.2)

pub loop-sought-preserved : goal.loop-sought-preserved
loop-sought-preserved c = seeking-next c.loop-sought.invariant c.find_next-sought.ensures

pub returns : goal.returns
returns c = seeking-end c.loop-sought.invariant c.in_default.not-Comma
