-- The tests are those of `exact`. Assumes nothing.
use borrow.Author.Tests.{eq-eqb, ne_eqb}
use Rattle.frequencies.specs.Values.{exact}
use Rattle.frequencies.proofs.values.zero_or_one.Goals as goal

pub returns-then-byte-eq48 : goal.returns-then-byte-eq48
unfolding exact
returns-then-byte-eq48 c = rw (eq-eqb c.args.byte 48 c.if-byte-eq48.true)

pub returns-then-byte-eq49 : goal.returns-then-byte-eq49
unfolding exact
returns-then-byte-eq49 c = let b = c.args.byte in rw (ne_eqb b 48 c.if-byte-eq48.false, eq-eqb b 49 c.if-byte-eq49.true)

pub returns-else-byte-eq49 : goal.returns-else-byte-eq49
unfolding exact
returns-else-byte-eq49 c = let b = c.args.byte in rw (ne_eqb b 48 c.if-byte-eq48.false, ne_eqb b 49 c.if-byte-eq49.false)
