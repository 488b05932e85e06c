-- What a call is lent to be read, in the paper's records. Assumes nothing.
use Rattle.paper.specs.Tables.{Tables, Index, lent, index_in}
use Rattle.paper.specs.Checks.{Bounds, Move, bounds_in}
use Rattle.paper.specs.Log.{Log, log_in}
use Rattle.paper.specs.Calls.{Model}
use Rattle.tables.specs.declared.lent.Tables as code-tables
use Rattle.tables.specs.declared.lent.Bounds as code-bounds
use Rattle.tables.specs.declared.lent.Move as code-move
use Rattle.tables.specs.declared.lent.Index as code-index
use Rattle.tables.specs.declared.lent.Log as code-log
use Rattle.tables.specs.declared.lent.Model as code-model

abbrev pub lent_tables : code-tables.Tables → Tables
lent_tables t = lent t.n t.m t.e t.kinds.now t.makes.now t.params.now t.firsts.now t.counts.now t.vars.now t.coefs.now

abbrev pub lent_bounds : code-bounds.Bounds → Bounds
lent_bounds b = bounds_in b.lows.now b.highs.now

abbrev pub lent_move : code-move.Move → Move
lent_move w = record { pairs = w.pairs; vars = w.vars.now; values = w.values.now }

abbrev pub lent_index : code-index.Index → Index
lent_index x = index_in x.starts.now x.places.now

abbrev pub lent_log : code-log.Log → Log
lent_log g = log_in g.sizes.now g.vars.now g.values.now

abbrev pub lent_model : code-model.Model → Model
lent_model w = record {
  tables = lent_tables w.tables;
  bounds = lent_bounds w.bounds;
  numbers = w.numbers.now;
  order = w.order.now;
  stored = w.stored.now;
  index = lent_index w.index;
  reasons = w.reasons.now;
}
