-- A mark above 4,096 is that of a closed group. Assumes nothing.
use borrow.Author.Tests.{le-leb, lt-leb}
use native.Mathlib.Omega.{arith}
use Rattle.paper.specs.Lists.{nat}
use Rattle.groups.proofs.asks.asks.Goals as goal

pub returns-then-wide-le4096 : goal.returns-then-wide-le4096
returns-then-wide-le4096 c = rw (le-leb (nat c.args.marks.now c.args.i) 4096 (omega arith))

pub returns : goal.returns
returns c =
    rw (lt-leb (nat c.args.marks.now c.args.i) 4096 (omega arith)) (omega arith)
