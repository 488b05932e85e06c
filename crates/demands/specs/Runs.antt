-- Runs of the public calls' outcomes after a build's. All that a call is lent is free but the session record and, where it is lent the session's
-- own, the stored values, the reasons and the log: these are what the outcomes before left. Assumes nothing.
use Rattle.std.specs.Prelude.{ℕ, suc, List, [], ◌∷◌, ◌≡◌, ℤ}
use Rattle.paper.specs.Tables.{Tables, Index}
use Rattle.paper.specs.Checks.{Bounds, pairs_of_move}
use Rattle.paper.specs.Log.{Log, log_in}
use Rattle.paper.specs.Moves.{Moves, rest}
use Rattle.paper.specs.Calls.{Session, Answer, Accepted, Refused, number_of, BuildLent, Model, up_to_counts, TrialLent, KeepLent, KeepLeft, TakeLent}
use Rattle.records.specs.Left.{record_in}
use Rattle.records.specs.Stated.{BuildOutcome, TrialOutcome, left_tried, KeepOutcome, left_kept, TakeOutcome, left_taken}

-- what the calls hand on: the record, and the session's own row of stored values, its reasons and its log
pub record State : Type 0 where
  pub session : Session
  pub stored : List ℤ
  pub reasons : List ℕ
  pub log : Log

-- what a call is lent: the session's own, or another
pub data Lent (A : Type 0) : Type 0 where
  own : Lent A
  another : A → Lent A

abbrev pub lent_of : {A : Type 0} → Lent A → A → A
lent_of own mine = mine
lent_of (another other) mine = other

-- the session's own afterwards
abbrev pub own_after : {A : Type 0} → Lent A → A → A → A
own_after own left mine = left
own_after (another other) left mine = mine

-- the model that it is lent
pub record Lends : Type 0 where
  pub tables : Tables
  pub bounds : Bounds
  pub numbers : List ℕ
  pub order : List ℕ
  pub stored : Lent (List ℤ)
  pub index : Index
  pub reasons : Lent (List ℕ)

module _ (now : State) where
  abbrev pub model_of : Lends → Model
  model_of l = let stored = lent_of l.stored now.stored in let reasons = lent_of l.reasons now.reasons in
      record { tables = l.tables; bounds = l.bounds; numbers = l.numbers; order = l.order; stored = stored; index = l.index; reasons = reasons }

  -- after a trial, which is lent the stored values and reasons to read only, and no log
  abbrev pub after_trial : Session → State
  after_trial session = record { session = session; stored = now.stored; reasons = now.reasons; log = now.log }

  -- after what a keep or a taking back left
  abbrev pub passed_on : Lends → Lent Log → KeepLeft → State
  passed_on l g left = record {
    session = left.session;
    stored = own_after l.stored left.stored now.stored;
    reasons = own_after l.reasons left.reasons now.reasons;
    log = own_after g left.log now.log;
  }

-- what stands after an accepted answer, and after a refusal
abbrev pub after_answer : {A : Type 0} → Answer → A → A → A
after_answer (Accepted evaluations) after before = after
after_answer (Refused number place) after before = before

module _ {b : BuildLent} (start : BuildOutcome b) where
  -- the model's own: what build was lent and left, over the session's stored values and reasons
  abbrev pub mine : State → Model
  mine now = record { tables = b.tables; bounds = b.bounds; numbers = start.numbers; order = start.order; stored = now.stored; index = start.index; reasons = now.reasons }

  -- a model is the model's own up to its counts: what lies in a lent row beyond them is free
  abbrev pub Mine : State → Model → Type 0
  Mine now w = up_to_counts w ≡ up_to_counts (mine now)

  -- a call was lent it, in the session's own rows
  pub record Own (now : State) (l : Lends) : Type 0 where
    pub model : Mine now (model_of now l)
    pub stored : l.stored ≡ own
    pub reasons : l.reasons ≡ own

-- `room` are the rows for the pairs of the log, which build is not lent
module _ {b : BuildLent} (start : BuildOutcome b) (room : List ℕ × List ℤ) where
  -- after how many calls, which moves are kept and not taken back, the latest first, and what stands. An accepted keep or taking back was lent the
  -- model's own and the session's own log; a refused one, and any trial, anything
  pub data Run : ℕ → Moves → State → Type 0 where
    built : Run 0 [] (record { session = record_in start.done.session; stored = start.stored; reasons = start.reasons; log = log_in start.log_sizes room.0 room.1 })
    then-trial : {k : ℕ} {ms : Moves} {now : State} → Run k ms now → (l : Lends) (c : TrialLent) (o : TrialOutcome now.session (model_of now l) c)
        → Run (suc k) ms (after_trial now (left_tried o).session)
    then-keep : {k : ℕ} {ms : Moves} {now : State} → Run k ms now → (l : Lends) (g : Lent Log) (c : KeepLent) (o : KeepOutcome now.session (lent_of g now.log) (model_of now l) c)
        → (number_of (left_kept o).answer ≡ 0 → Own start now l × (g ≡ own))
        → Run (suc k) (after_answer (left_kept o).answer (pairs_of_move c.move ∷ ms) ms) (passed_on now l g (left_kept o))
    then-take : {k : ℕ} {ms : Moves} {now : State} → Run k ms now → (l : Lends) (g : Lent Log) (c : TakeLent) (o : TakeOutcome now.session (lent_of g now.log) (model_of now l) c)
        → (number_of (left_taken o).answer ≡ 0 → Own start now l × (g ≡ own))
        → Run (suc k) (after_answer (left_taken o).answer (rest ms) ms) (passed_on now l g (left_taken o))
