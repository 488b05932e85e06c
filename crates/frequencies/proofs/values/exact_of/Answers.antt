-- By how many bytes there are. Assumes nothing.
use native.Mathlib.Omega.{arith}
use Rattle.frequencies.proofs.Times.{exact_none, exact-many}
use Rattle.frequencies.proofs.values.exact_of.Goals as goal

pub returns-in-empty : goal.returns-in-empty
returns-in-empty c = exact_none c.args.bytes.now (omega arith)

pub returns-in_default : goal.returns-in_default
returns-in_default c = exact-many c.args.bytes.now (omega arith)
