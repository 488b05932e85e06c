-- The loop has counted the flags passed (`size` grows by one place at a time). Assumes nothing.
use Rattle.std.specs.Prelude.{◌≡◌, eqb}
use Rattle.paper.specs.Lists.{nat, size}
use Rattle.rows.proofs.steps.count.evaluations.Given as goal

abbrev pub invariant-loop-flag : goal.invariant-loop-flag
invariant-loop-flag l = l.count ≡ size (λ u. eqb (nat l.flags u) 1) l.flag-index
