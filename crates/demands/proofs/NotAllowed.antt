-- Wrong calls that were tried against the statements: none is an outcome that they allow. `Refuted` proves it. What the statements on two planners ask for is
-- needed too: that their moves have no variable in common, and, where a chain closes, that each is accepted after the other. Assumes nothing.
use Prim.Native.Nat.{ℕ, ◌<◌}
use mathlib.Core.List.{List, [], ◌∷◌}
use mathlib.Core.Path.{◌≡◌}
use lib.IntN.{ℤ, pos}
use lib.ListN.{get_or}
use Rattle.paper.specs.Lists.{nat, size}
use Rattle.paper.specs.Net.{Values, input-to-output}
use Rattle.paper.specs.Tables.{Tables, lent}
use Rattle.paper.specs.Log.{Log, log_in, logged}
use Rattle.paper.specs.Moves.{Moves}
use Rattle.paper.specs.Reason.{reason_of}
use Rattle.paper.specs.Calls.{Session, Accepted, Refused, number_of, evaluations_of, BuildLent, BuildLeft, Model, TrialLent, TrialLeft, trial, KeepLent, KeepLeft, keep, latest, TakeLent, take_back, asked_list, route_of}
use Rattle.worked.specs.Runs.{building, model_a, start_a, zeros, zeros_z, ones}
use Rattle.records.specs.Stated.{BuildOutcome, left_built, TrialOutcome, left_tried, KeepOutcome, left_kept, TakeOutcome, left_taken}
use Rattle.demands.specs.Runs.{State, mine, Run}
use Rattle.demands.specs.Demands.{old, renewed, restored, evaluated_by}

-- ── keeps and a taking back after a build ──
abbrev pub rows : List ℕ × List ℤ
rows = (zeros 4096, zeros_z 4096)

-- a move of one variable, with room for the flags of 6
abbrev pub move_to : ℕ → ℕ → KeepLent
move_to v k = record { move = record { pairs = 1; vars = v ∷ []; values = pos k ∷ [] }; flags = zeros 6 }

abbrev pub six_flags : TakeLent
six_flags = record { flags = zeros 6 }

module _ (b : BuildLent) where
  -- the model after build, and with other stored values and reasons
  abbrev pub model_with : BuildLeft → List ℤ → List ℕ → Model
  model_with x stored reasons = record { tables = b.tables; bounds = b.bounds; numbers = x.numbers; order = x.order; stored = stored; index = x.index; reasons = reasons }

  -- a trial or a keep after build, and a keep or a taking back after that
  abbrev pub tried_first : BuildLeft → TrialLent → TrialLeft
  tried_first x c = trial x.session (model_with x x.stored x.reasons) c

  abbrev pub kept_first : BuildLeft → KeepLent → KeepLeft
  kept_first x c = keep x.session (log_in x.log_sizes rows.0 rows.1) (model_with x x.stored x.reasons) c

  abbrev pub kept_next : BuildLeft → KeepLeft → KeepLent → KeepLeft
  kept_next x y c = keep y.session y.log (model_with x y.stored y.reasons) c

  abbrev pub taken_next : BuildLeft → KeepLeft → TakeLent → KeepLeft
  taken_next x y c = take_back y.session y.log (model_with x y.stored y.reasons) c

module _ {b : BuildLent} (start : BuildOutcome b) where
  abbrev pub begun : State
  begun = record { session = (left_built start).session; stored = start.stored; reasons = start.reasons; log = log_in start.log_sizes rows.0 rows.1 }

  abbrev pub Kept-first : KeepLent → Type 0
  Kept-first c = KeepOutcome begun.session begun.log (mine start begun) c

  abbrev pub handed : {c : KeepLent} → Kept-first c → State
  handed o = record { session = (left_kept o).session; stored = o.stored; reasons = o.reasons; log = o.log }

  abbrev pub Kept-next : {c : KeepLent} → Kept-first c → KeepLent → Type 0
  Kept-next o c = KeepOutcome (handed o).session (handed o).log (mine start (handed o)) c

  abbrev pub Taken-next : {c : KeepLent} → Kept-first c → TakeLent → Type 0
  Taken-next o c = TakeOutcome (handed o).session (handed o).log (mine start (handed o)) c

-- ── two models ──
-- A has 3 rows and is accepted; a move of the end to 28500 is accepted too, and 2 rows are evaluated, and again when it is taken back
abbrev pub A : BuildLent
A = building model_a start_a

abbrev pub end_to : ℕ → KeepLent
end_to k = move_to 1 k

abbrev pub ask_five : TrialLent
ask_five = record { move = (end_to 28500).move; asked = 1; asked_vars = 5 ∷ []; route = 3; results = zeros_z 1; trial = zeros_z 6; flags = zeros 6; why = zeros 1 }

-- in B a chain closes: variables 3 and 4 are ELEMENT, by the indices 0 and 1, of variable 2 and of each other; at first both are 2
abbrev pub each_other : Tables
each_other = lent 5 2 6 (4 ∷ 4 ∷ []) (3 ∷ 4 ∷ []) (zeros_z 2) (0 ∷ 3 ∷ []) (3 ∷ 3 ∷ []) (0 ∷ 2 ∷ 4 ∷ 1 ∷ 2 ∷ 3 ∷ []) (ones 6)

abbrev pub B : BuildLent
B = building each_other (pos 0 ∷ pos 0 ∷ pos 7 ∷ [])

pub record OfModels : Type 0 where
  -- a build, trial, keep or taking back that refuses everything, and a count fixed at m
  pub built : (start : BuildOutcome A) → (left_built start).answer ≡ Accepted 3
  pub tried : (start : BuildOutcome A) (o : TrialOutcome (begun start).session (mine start (begun start)) ask_five) → (left_tried o).answer ≡ Accepted 2
  pub kept : (start : BuildOutcome A) (o : Kept-first start (end_to 28500)) → (left_kept o).answer ≡ Accepted 2
  pub taken : (start : BuildOutcome A) (o : Kept-first start (end_to 28500)) (q : Taken-next start o six_flags) → (left_taken q).answer ≡ Accepted 2
  -- two moves of one variable, the end to 28500 and to 28801: who keeps first does matter
  pub in-common : (start : BuildOutcome A) (o : Kept-first start (end_to 28500)) (p : Kept-first start (end_to 28801)) (q : Kept-next start o (end_to 28801)) (r : Kept-next start p (end_to 28500))
      → q.stored ≡ r.stored → ⊥
  -- two moves with no variable in common, where a chain closes: each is accepted, and neither after the other, since 3 then needs 4, and 4 needs 3
  pub first_alone : (start : BuildOutcome B) (o : Kept-first start (move_to 0 1)) → (left_kept o).answer ≡ Accepted 1
  pub second-alone : (start : BuildOutcome B) (o : Kept-first start (move_to 1 1)) → (left_kept o).answer ≡ Accepted 1
  pub both : (start : BuildOutcome B) (o : Kept-first start (move_to 0 1)) (q : Kept-next start o (move_to 1 1)) → (left_kept q).answer ≡ Refused 20 3

-- ── after any run ──
module _ {b : BuildLent} (start : BuildOutcome b) (moves : Moves) (now : State) where
  -- each call is lent the model's own, and a keep or a taking back the session's log
  abbrev pub own : Model
  own = mine start now

  abbrev pub Tries : TrialLent → Type 0
  Tries c = TrialOutcome now.session own c

  abbrev pub Keeps : KeepLent → Type 0
  Keeps c = KeepOutcome now.session now.log own c

  abbrev pub Takes : TakeLent → Type 0
  Takes c = TakeOutcome now.session now.log own c

  -- the fresh values now, with one more move, and without the latest
  abbrev pub old_at : Values
  old_at = old b moves

  abbrev pub new_at : {c : KeepLent} → Keeps c → Values
  new_at {c} o = renewed b moves c.move

  abbrev pub tried_at : {c : TrialLent} → Tries c → ℕ → ℤ
  tried_at {c} o i = renewed b moves c.move (nat c.asked_vars i)

  pub record AfterRun : Type 0 where
    -- a keep that does nothing, at the first keep or at any later one, where its move changes the fresh value of some v
    pub idle-keep : (c : KeepLent) (o : Keeps c) → number_of (left_kept o).answer ≡ 0 → (v : ℕ) → v < b.tables.n → (new_at o v ≡ old_at v → ⊥) → o.stored ≡ now.stored → ⊥
    -- or that leaves the reasons, where its move changes one
    pub idle-reasons : (c : KeepLent) (o : Keeps c) → number_of (left_kept o).answer ≡ 0
        → (v : ℕ) → v < b.tables.n → (reason_of b.tables v (new_at o) ≡ reason_of b.tables v old_at → ⊥) → o.reasons ≡ now.reasons → ⊥
    -- a taking back that does nothing, where the latest move changed the fresh value of some v
    pub idle-take : (c : TakeLent) (o : Takes c) → number_of (left_taken o).answer ≡ 0 → (v : ℕ) → v < b.tables.n → (restored b moves v ≡ old_at v → ⊥) → o.stored ≡ now.stored → ⊥
    -- or that leaves its move in the log, so that the next one would take the same back again
    pub move-left-in : (c : TakeLent) (o : Takes c) → number_of (left_taken o).answer ≡ 0 → logged (left_taken o).log ≡ logged now.log → ⊥
    -- a keep that logs a new value, where that is not the value before it
    pub new-logged : (c : KeepLent) (o : Keeps c) → number_of (left_kept o).answer ≡ 0 → (i : ℕ) → i < c.move.pairs → (get_or c.move.values i (pos 0) ≡ old_at (nat c.move.vars i) → ⊥)
        → get_or (latest (left_kept o).log (record { flags = c.flags })).move.values i (pos 0) ≡ get_or c.move.values i (pos 0) → ⊥
    -- a count made up: it is not the size of the set that the route evaluates
    pub made_up : (c : KeepLent) (o : Keeps c) → number_of (left_kept o).answer ≡ 0
        → (k : ℕ) → (k ≡ size (evaluated_by b moves input-to-output c.move []) b.tables.n → ⊥) → evaluations_of (left_kept o).answer ≡ k → ⊥
    pub made-up-trial : (c : TrialLent) (o : Tries c) → number_of (left_tried o).answer ≡ 0
        → (k : ℕ) → (k ≡ size (evaluated_by b moves (route_of c.route) c.move (asked_list c)) b.tables.n → ⊥) → evaluations_of (left_tried o).answer ≡ k → ⊥
    -- a trial that gives the stored values, where its move changes the fresh value of what is asked
    pub stored-trial : (c : TrialLent) (o : Tries c) → number_of (left_tried o).answer ≡ 0
        → (i v : ℕ) → i < c.asked → nat c.asked_vars i ≡ v → v < b.tables.n → (tried_at o i ≡ old_at v → ⊥) → get_or o.results i (pos 0) ≡ get_or now.stored v (pos 0) → ⊥
    -- one that always gives the same values, where the fresh ones of two moves differ
    pub same-trial : (c c' : TrialLent) (o : Tries c) (o' : Tries c') → number_of (left_tried o).answer ≡ 0 → number_of (left_tried o').answer ≡ 0
        → (i : ℕ) → i < c.asked → i < c'.asked → (tried_at o i ≡ tried_at o' i → ⊥) → o.results ≡ o'.results → ⊥
    -- one that gives the right reasons and 0 for every result, where the fresh value of what is asked is not 0
    pub zero-results : (c : TrialLent) (o : Tries c) → number_of (left_tried o).answer ≡ 0 → (i : ℕ) → i < c.asked → (tried_at o i ≡ pos 0 → ⊥) → get_or o.results i (pos 0) ≡ pos 0 → ⊥
    -- and one that gives the right results and 0 for every reason, where a reason is not 0
    pub zero-why : (c : TrialLent) (o : Tries c) → number_of (left_tried o).answer ≡ 0
        → (i : ℕ) → i < c.asked → (reason_of b.tables (nat c.asked_vars i) (renewed b moves c.move) ≡ 0 → ⊥) → nat o.why i ≡ 0 → ⊥

pub record NotAllowed : Type 0 where
  pub of-models : OfModels
  pub after_run : {b : BuildLent} (start : BuildOutcome b) (room : List ℕ × List ℤ) → number_of (left_built start).answer ≡ 0
      → (calls : ℕ) (moves : Moves) (now : State) → Run start room calls moves now → AfterRun start moves now
  -- a keep that is refused and clears its reasons, where one of them is not 0
  pub cleared-reasons : (s : Session) (g : Log) (w : Model) (c : KeepLent) (o : KeepOutcome s g w c) → (number_of (left_kept o).answer ≡ 0 → ⊥)
      → (v : ℕ) → (nat w.reasons v ≡ 0 → ⊥) → nat o.reasons v ≡ 0 → ⊥
