-- What a call leaves to its caller, in the paper's records. Assumes nothing.
use Rattle.std.specs.Prelude.{ℕ, List, ℤ, Result, Ok, Err}
use Rattle.paper.specs.Tables.{index_in}
use Rattle.paper.specs.Log.{log_in}
use Rattle.paper.specs.Calls.{Answer, Accepted, Refused, Session, BuildLeft, TrialLeft, KeepLeft}
use Rattle.tables.specs.declared.Refusal as code-refusal
use Rattle.records.specs.declared.Session as code-session
use Rattle.records.specs.declared.Done.{Done}

-- the answer of the code as the paper's
abbrev pub answer_in : Result ℕ code-refusal.Refusal → Answer
answer_in (Ok evaluations) = Accepted evaluations
answer_in (Err refusal) = Refused refusal.number refusal.place

-- the session record of the code as the paper's
abbrev pub record_in : code-session.Session → Session
record_in s = record { kept = s.kept; evaluations = s.evaluations; blanks = s.blanks }

-- by build: the answer, the record, the three rows, the index of readers, the reasons, and the sizes of the log
abbrev pub left_by_build : Done → List ℕ → List ℕ → List ℤ → List ℕ → List ℕ → List ℕ → List ℕ → BuildLeft
left_by_build r numbers order stored reader_starts reader_places reasons log_sizes = record {
  answer = answer_in r.answer;
  session = record_in r.session;
  numbers = numbers;
  order = order;
  stored = stored;
  index = index_in reader_starts reader_places;
  reasons = reasons;
  log_sizes = log_sizes;
}

-- by trial: the answer, the record, the three rows, and the reasons asked
abbrev pub left_by_trial : Done → List ℤ → List ℤ → List ℕ → List ℕ → TrialLeft
left_by_trial r results trial flags why = record {
  answer = answer_in r.answer;
  session = record_in r.session;
  results = results;
  trial = trial;
  flags = flags;
  why = why;
}

-- by keep and by taking back: the answer, the record, the stored values, the reasons, the flags and the log
abbrev pub left_by_keep : Done → List ℤ → List ℕ → List ℕ → List ℕ → List ℕ → List ℤ → KeepLeft
left_by_keep r stored reasons flags log_sizes log_vars log_values = record {
  answer = answer_in r.answer;
  session = record_in r.session;
  stored = stored;
  reasons = reasons;
  flags = flags;
  log = log_in log_sizes log_vars log_values;
}
