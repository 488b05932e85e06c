use native.Mathlib.Omega.{arith}
use Prim.Native.Nat.{◌+◌}
use mathlib.Core.Path.{sym, ap, ◌∙◌}
use lib.ListN.{drop}
use Rattle.paper.specs.Lists.{nat}
use Rattle.paper.proofs.Scan.{next}
use Rattle.frequencies.proofs.Told.{said_from, said-stops}
use Rattle.frequencies.proofs.values.number_of.Goals as goal

pub returns-in_err-n : goal.returns-in_err-n
returns-in_err-n c =
    let l = c.loop-digit in let bs = c.args.bytes.now in let i = l.digit-index in
    rw c.from_residual.ensures
    (said-stops l.n (nat bs i) (drop (i + 1) bs) (sym c.in_err-n.was ∙ c.next_digit.ensures)
    ∙ ap (said_from l.n) (sym (next bs i 0 (omega arith))) ∙ l.invariant.1)
