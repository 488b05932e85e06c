-- The table that is checked is the row packed alone (`alone-told`). Assumes nothing.
use Rattle.std.proofs.Common.{◌∙◌}
use Rattle.tables.specs.Lent.{lent_tables}
use Rattle.damage.proofs.Alone.{alone-told}
use Rattle.damage.proofs.kept.keep.alone_good.Goals as goal

pub returns : goal.returns
returns c =
    c.is_ok.ensures.value ∙ alone-told (lent_tables c.args.tables.now) c.requires.sized c.args.row c.requires.row_lt_m.0 c.wide-first.result c.wide-count.result c.wide-first.ensures.0 c.wide-count.ensures.0 c.row_checks.ensures
