-- The row is filled from the front with what stood there, less 2, and that is the number. Assumes nothing.
use Rattle.std.proofs.Common.{◌++◌, drop}
use Rattle.paper.specs.Tables.{net}
use Rattle.paper.proofs.Straight.{number}
use Rattle.paper.proofs.Buffers.{Filled}
use Rattle.order.specs.Formed.{bare_lent}
use Rattle.order.proofs.write.write_numbers.Given as goal

abbrev pub invariant-loop-s : goal.invariant-loop-s
invariant-loop-s l = Filled (number (net (bare_lent l.tables)) l.tables.n) l.fn.state (l.s-items ++ drop l.tables.n l.fn.state) l.s-index
