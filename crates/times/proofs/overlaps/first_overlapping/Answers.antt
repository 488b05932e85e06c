-- A window overlaps another exactly if a first such is found. Assumes nothing.
use Rattle.std.proofs.Common.{ℕ, Bool, ◌≡◌, ◌≤◌, not, ap, ◌∙◌, arith}
use Rattle.std.specs.Prelude.{eqb, is_some}
use Rattle.std.proofs.lemmas.Bool.Decides.{nat_tests}
use Rattle.integers.specs.Below.{if_below}
use Rattle.paper.proofs.Least.{first_fail-le}
use Rattle.paper.proofs.Scan.{scan-next, scan-some, scan-none}
use Rattle.times.proofs.overlaps.first_overlapping.Goals as goal

-- whether there is a place below the bound, by the place
none-there : (m k : ℕ) (b : Bool) → b ≡ is_some (if_below m k) → k ≤ m → eqb k m ≡ not b
none-there m k b e l = grind (arith, nat_tests)

pub returns-then-is_some : goal.returns-then-is_some
returns-then-is_some c = scan-some _ _ _ c.loop-i.invariant (omega arith) (none-there _ _ _ (c.if-is_some.ensures ∙ ap is_some c.first_on.ensures) (first_fail-le _ _))

pub loop-i-preserved : goal.loop-i-preserved
loop-i-preserved c = scan-next _ _ _ c.loop-i.invariant (omega arith) (none-there _ _ _ (c.if-is_some.ensures ∙ ap is_some c.first_on.ensures) (first_fail-le _ _))

pub returns : goal.returns
returns c = scan-none _ _ _ c.loop-i.invariant (omega arith)
