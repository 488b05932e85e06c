-- The model that a row of makers shows, as far as formulas play no part. Assumes nothing.
use Rattle.std.specs.Prelude.{ℕ, List, []}
use Rattle.paper.specs.Net.{Net}
use Rattle.tables.specs.declared.lent.Tables as code-tables
use Rattle.routes.specs.Work.{work_net}
use Rattle.closed_routes.specs.Looking.{shapes}

abbrev pub whole_net : List ℕ → List ℕ → List ℕ → List ℕ → Net
whole_net firsts counts vars by = work_net (shapes [] firsts counts vars) by

abbrev pub whole_lent : code-tables.Tables → List ℕ → Net
whole_lent t = whole_net t.firsts.now t.counts.now t.vars.now
