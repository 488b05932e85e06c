-- The loop has counted the blanks among the values passed (`size` grows by one place at a time). Assumes nothing.
use Rattle.std.specs.Prelude.{◌≡◌, pos, get_or}
use Rattle.paper.specs.Calls.{blanks_among}
use Rattle.formulas.proofs.blanks.blanks_among.Given as goal

abbrev pub invariant-loop-value : goal.invariant-loop-value
invariant-loop-value l = l.count ≡ blanks_among l.value-index (λ u. get_or l.values u (pos 0))
