use Rattle.std.proofs.Common.{length, get_or, ap, ◌∙◌, arith}
use Rattle.std.proofs.lemmas.List.{get_or_default}
use Rattle.paper.proofs.Buffers.{filled_next, filled-end}
use Rattle.salvage.proofs.packing.copy.pack.Goals as goal

pub loop-i-preserved : goal.loop-i-preserved
loop-i-preserved g c =
    let low = c.requires.1.at c.loop-i.i c.loop-i-test.true in λ d.
    filled_next _ _ _ _ (c.loop-i.invariant d) (omega arith)
    (c.index-column-wide.is ∙ get_or_default c.args.column.now c.wide.result _ d (omega arith) ∙ ap (λ k. get_or c.args.column.now k d) c.wide.ensures.0)

pub returns : goal.returns
returns g c = λ d. filled-end _ _ _ c.loop-i.i (length c.args.rows.now) (c.loop-i.invariant d) (omega arith)
