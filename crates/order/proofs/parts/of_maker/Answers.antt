-- The test for no maker is the definition's. Assumes nothing.
use borrow.Author.Tests.{eq-eqb, ne_eqb}
use Rattle.order.proofs.parts.of_maker.Goals as goal

pub returns-then-maker-eq0 : goal.returns-then-maker-eq0
returns-then-maker-eq0 c = rw (eq-eqb c.args.maker 0 c.if-maker-eq0.true)

pub returns : goal.returns
returns c =
    let s = c.before.before.before in
    rw (ne_eqb s.args.maker 0 c.if-maker-eq0.false)
