-- The loop has joined the tests of every variable before this one (`Joint`). Assumes nothing.
use Rattle.paper.proofs.Scan.{Joint}
use Rattle.order.specs.Numbering.{searched_right}
use Rattle.order.proofs.right.searched_right.Given as goal

abbrev pub invariant-loop-v : goal.invariant-loop-v
invariant-loop-v l = Joint (searched_right l.by l.nums) l.n l.v l.all
