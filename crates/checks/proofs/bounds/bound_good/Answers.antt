-- A made variable's bounds are compared with the full ones, and those of another by the tests of `bound_good`, in its order. Assumes nothing.
use mathlib.Core.Bool.{◌&&◌}
use mathlib.Core.Path.{ap₂}
use mir.Syntax.{w32}
use mir.Facts.{to_z-of_z, sfits_lit}
use Rattle.integers.proofs.Bits.{eqb-bits}
use Rattle.paper.specs.Checks.{lowest, highest}
use Rattle.tables.proofs.Tests.{joined-every}
use Rattle.checks.proofs.Range.{lowest-range}
use Rattle.checks.proofs.bounds.bound_good.Goals as goal

pub returns-then-made : goal.returns-then-made
returns-then-made c =
    let s = c.before in
    rw c.if-made.true
    (ap₂ ◌&&◌ (eqb-bits w32 s.args.low lowest s.ranges.low (sfits_lit tt)) (eqb-bits w32 s.args.high highest s.ranges.high (sfits_lit tt)))

pub returns : goal.returns
returns c =
    let s = c.before in let low = s.args.low in let high = s.args.high in
    rw c.if-made.false (simp (to_z-of_z s.ranges.low, to_z-of_z s.ranges.high, lowest-range low s.ranges.low, lowest-range high s.ranges.high) (joined-every _ _))
