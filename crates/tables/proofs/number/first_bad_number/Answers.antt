-- Where all parameters and all coefficients are shown to be good every row is (`all-numbers`), and else they are asked row by row. Assumes nothing.
use Rattle.tables.specs.Lent.{lent_tables}
use Rattle.tables.proofs.Sifting.{all-numbers}
use Rattle.tables.proofs.number.first_bad_number.Goals as goal

pub returns-then-known : goal.returns-then-known
returns-then-known c = all-numbers (lent_tables c.args.tables.now) c.params_good.ensures c.all_suit.ensures c.if-known.true
