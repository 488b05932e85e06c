-- The sum so far and the terms that are left make the exact sum, and a blank among the inputs passed has been noted (`Summed`). Assumes nothing.
use Rattle.formulas.proofs.Sums.{Summed}
use Rattle.formulas.proofs.linear.linear.Given as goal

abbrev pub invariant-loop-i : goal.invariant-loop-i
invariant-loop-i l = Summed l.param l.coefs l.row.vars.now l.row.values.now l.i l.blank l.sum
