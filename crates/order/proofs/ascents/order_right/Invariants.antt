-- All places passed hold rows that rise, and `least` is what the next must reach; the first that does not decides. Assumes nothing.
use Rattle.order.proofs.Climbs.{Climbing}
use Rattle.order.proofs.ascents.order_right.Given as goal

abbrev pub invariant-loop-row : goal.invariant-loop-row
invariant-loop-row l = Climbing l.tables.makes.now l.nums l.ord l.tables.m l.row-index l.least
