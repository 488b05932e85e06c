-- The two ends are held within the list, which leaves what there is of the part (`cut-within`). Assumes nothing.
use native.Mathlib.Omega.{arith}
use Rattle.tables.proofs.Cut.{cut-within}
use Rattle.tables.proofs.number.part_of.Goals as goal

pub returns : goal.returns
returns c =
    let a = c.args in
    let f = c.wide.ensures in let k = c.wide-2.ensures in let g = c.wide-3.ensures in
    let end = c.min-end.ensures in let start = c.min-start.ensures in
    cut-within a.coefs.now a.first a.count _ _ (omega arith) (omega arith)
