-- v has links exactly if its part begins before it stops. Assumes nothing.
use borrow.Author.Tests.{lt-ltb, le-ltb}
use native.Mathlib.Omega.{arith}
use Rattle.paper.specs.Lists.{nat}
use Rattle.groups.proofs.stacks.first_number.Goals as goal

pub returns-then-wide : goal.returns-then-wide
returns-then-wide c =
    rw (lt-ltb (nat c.args.links.now.begins.now c.args.v) (nat c.args.links.now.stops.now c.args.v) (omega arith))

pub returns : goal.returns
returns c =
    rw (le-ltb (nat c.args.links.now.begins.now c.args.v) (nat c.args.links.now.stops.now c.args.v) (omega arith))
