-- What a file holds of lent tables, start values and bounds. Assumes nothing.
use Rattle.std.specs.Prelude.{List, ℤ}
use Rattle.paper.specs.File.{Contents, contents}
use Rattle.tables.specs.Lent.{lent_tables}
use Rattle.tables.specs.declared.lent.Tables.{Tables}
use Rattle.tables.specs.declared.lent.Bounds.{Bounds}

abbrev pub lent_contents : Tables → List ℤ → Bounds → Contents
lent_contents t starts b = contents (lent_tables t) starts b.lows.now b.highs.now
