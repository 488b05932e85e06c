-- Coefficients that are all 1 suit every kind (`ones-suit`), and else the loop shows it where it may be asked. Assumes nothing.
use mathlib.Core.Bool.{◌&&◌}
use mathlib.Core.Path.{sym, ap₂, ◌∙◌}
use borrow.Author.Tests.{not-false}
use Rattle.tables.specs.Lent.{lent_tables}
use Rattle.tables.proofs.Sifting.{ones-suit}
use Rattle.tables.proofs.number.all_suit.Goals as goal

pub returns-then-all_one : goal.returns-then-all_one
returns-then-all_one c = ones-suit (lent_tables c.args.tables.now) (sym c.all_one.ensures ∙ c.if-all_one.true)

pub others_one-requires : goal.others_one-requires
others_one-requires c = record { m_in_bounds = c.requires; coefs_value = ap₂ ◌&&◌ (sym c.parts_good.ensures) (sym c.all_small.ensures) ∙ not-false _ c.if-not-known.false-raw }
