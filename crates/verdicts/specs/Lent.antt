-- What a caller lends to each call, in the paper's records. Assumes nothing.
use Rattle.std.specs.Prelude.{ℕ, Bool, List, [], ◌∷◌, ℤ, leb, length}
use Rattle.paper.specs.Lists.{every}
use Rattle.paper.specs.Tables.{lent, index_in}
use Rattle.paper.specs.Checks.{Bounds, bounds_in, move_fits}
use Rattle.paper.specs.Calls.{Session, BuildLent, Model, TrialLent, KeepLent, TakeLent}
use Rattle.tables.specs.Lent.{lent_tables, lent_bounds, lent_move, lent_index}
use Rattle.tables.specs.declared.lent.Tables as code-tables
use Rattle.tables.specs.declared.lent.Bounds as code-bounds
use Rattle.tables.specs.declared.lent.Move as code-move
use Rattle.tables.specs.declared.lent.Index as code-index
use Rattle.verdicts.specs.declared.asked.Asked as code-asked

-- a record that nobody holds
abbrev pub no_record : Session
no_record = record { kept = 0; evaluations = 0; blanks = 0 }

-- to build: the record, the tables, the bounds, start values, the rows to fill, the reasons among them, and the sizes of the log
abbrev pub to_build : Session → ℕ → ℕ → ℕ → List ℕ → List ℕ → List ℤ → List ℕ → List ℕ → List ℕ → List ℤ → List ℤ → List ℤ → List ℤ → List ℕ → List ℕ → List ℤ → List ℕ → List ℕ → List ℕ → List ℕ → BuildLent
to_build session n m e kinds makes params firsts counts vars coefs lows highs starts numbers order stored reader_starts reader_places reasons log_sizes = record {
  session = session;
  tables = lent n m e kinds makes params firsts counts vars coefs;
  bounds = bounds_in lows highs;
  starts = starts;
  numbers = numbers;
  order = order;
  stored = stored;
  index = index_in reader_starts reader_places;
  reasons = reasons;
  log_sizes = log_sizes;
}

-- to trial, keep and taking back: the model
abbrev pub to_model : ℕ → ℕ → ℕ → List ℕ → List ℕ → List ℤ → List ℕ → List ℕ → List ℕ → List ℤ → List ℤ → List ℤ → List ℕ → List ℕ → List ℤ → List ℕ → List ℕ → List ℕ → Model
to_model n m e kinds makes params firsts counts vars coefs lows highs numbers order stored reader_starts reader_places reasons =
    record {
      tables = lent n m e kinds makes params firsts counts vars coefs;
      bounds = bounds_in lows highs;
      numbers = numbers;
      order = order;
      stored = stored;
      index = index_in reader_starts reader_places;
      reasons = reasons;
    }

-- to trial beside it: the move, what is asked, the route, and the rows to fill
abbrev pub to_try : ℕ → List ℕ → List ℤ → ℕ → List ℕ → ℕ → List ℤ → List ℤ → List ℕ → List ℕ → TrialLent
to_try pairs vars values asked asked_vars route results trial flags why = record {
  move = record { pairs = pairs; vars = vars; values = values };
  asked = asked;
  asked_vars = asked_vars;
  route = route;
  results = results;
  trial = trial;
  flags = flags;
  why = why;
}

-- to keep beside it: the move, and the row of flags
abbrev pub to_keep : ℕ → List ℕ → List ℤ → List ℕ → KeepLent
to_keep pairs vars values flags = record { move = record { pairs = pairs; vars = vars; values = values }; flags = flags }

-- to taking back: the row of flags
abbrev pub to_take : List ℕ → TakeLent
to_take flags = record { flags = flags }

-- ── the same over the structs that are lent ──
-- to build
abbrev pub lent_to_build : Session → code-tables.Tables → Bounds → List ℤ → List ℕ → List ℕ → List ℤ → List ℕ → List ℕ → List ℕ → List ℕ → BuildLent
lent_to_build session tables bounds starts numbers order stored reader_starts reader_places reasons log_sizes = record {
  session = session;
  tables = lent_tables tables;
  bounds = bounds;
  starts = starts;
  numbers = numbers;
  order = order;
  stored = stored;
  index = index_in reader_starts reader_places;
  reasons = reasons;
  log_sizes = log_sizes;
}

-- the model, where its values and reasons are written
abbrev pub lent_to_model : code-tables.Tables → code-bounds.Bounds → List ℕ → List ℕ → List ℤ → code-index.Index → List ℕ → Model
lent_to_model tables bounds numbers order stored index reasons = record {
  tables = lent_tables tables;
  bounds = lent_bounds bounds;
  numbers = numbers;
  order = order;
  stored = stored;
  index = lent_index index;
  reasons = reasons;
}

-- to trial and to keep beside it
abbrev pub lent_to_try : code-move.Move → code-asked.Asked → List ℤ → List ℤ → List ℕ → List ℕ → TrialLent
lent_to_try mv asked results trial flags why = record {
  move = lent_move mv;
  asked = asked.count;
  asked_vars = asked.vars.now;
  route = asked.route;
  results = results;
  trial = trial;
  flags = flags;
  why = why;
}

abbrev pub lent_to_keep : code-move.Move → List ℕ → KeepLent
lent_to_keep mv flags = record { move = lent_move mv; flags = flags }

-- check 1 of what a trial is lent beside the model
abbrev pub move_own_fits : ℕ → TrialLent → Bool
move_own_fits n c =
    every (
    move_fits c.move ∷ leb c.asked 32 ∷ leb c.asked (length c.asked_vars) ∷ leb c.asked (length c.results)
    ∷ leb n (length c.trial) ∷ leb n (length c.flags) ∷ leb c.asked (length c.why) ∷ [])
