-- The first outcome that is refused is the answer, or else what `merge` answers, in numbers. Assumes nothing.
use borrow.Author.Tests.{ne_eqb}
use Rattle.capi.proofs.OfBoth.{first-refused, second-refused, both-merged}
use Rattle.capi.proofs.merged.lukhandro_merge.Goals as goal

pub returns-then-first-ne0 : goal.returns-then-first-ne0
returns-then-first-ne0 c = first-refused _ _ _ _ _ (ne_eqb _ _ c.if-first-ne0.true) c.refused_figures.ensures

pub returns-then-second-ne0 : goal.returns-then-second-ne0
returns-then-second-ne0 c =
    second-refused _ _ _ _ _ c.if-first-ne0.false (ne_eqb _ _ c.if-second-ne0.true) c.refused_figures-then-second-ne0.ensures

pub returns : goal.returns
returns c =
    both-merged _ _ _ _ _ c.if-first-ne0.false c.if-second-ne0.false c.from-3.ensures c.merge-told.ensures c.from.ensures c.from-2.ensures
