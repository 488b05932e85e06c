-- The calls, each as one function from what it is lent to what it leaves, accepted or refused. A call's contract is one equation: what
-- the caller has at exit is what this function gives of what the caller lent at entry. What a call is lent only to read is not among what it
-- leaves: it cannot change. Assumes nothing.
use Rattle.std.specs.Prelude.{ℕ, suc, pred, min, Bool, cond, ◌&&◌, ◌||◌, List, [], ◌∷◌, ◌++◌, ℤ, eqb, leb, ltb, length, set, take, drop}
use Rattle.integers.specs.Integers.{eq_z}
use Rattle.paper.specs.Lists.{every, between, nat, size, over}
use Rattle.paper.specs.Formula.{blank}
use Rattle.paper.specs.Net.{Values, Route, input-to-output, output-to-input, mark-guided, new, evaluated, moved, names}
use Rattle.paper.specs.Tables.{Tables, bare, Index, index_in, net, values_in, index}
use Rattle.paper.specs.Chains.{permitted, group_number, group_order, worth, determined, groups_numbered}
use Rattle.paper.specs.Checks.{Verdict, accepted, refused, Line, places, whole, by_lines, leaves, sized, Bounds, bounds_in, table_lines, indexed, start_allowed, stored_allowed, Move, pairs_of_move, move_fits, move_lines, fresh_lines}
use Rattle.paper.specs.Log.{Log, logged, back, log_fits, log_good, noted, dropped}
use Rattle.paper.specs.Reason.{reason_of, reason_after, reason_kept}

-- the session record: moves kept, evaluations of the last accepted call, and how many stored values are blank
pub record Session : Type 0 where
  pub kept : ℕ
  pub evaluations : ℕ
  pub blanks : ℕ

-- how many of the first n values are blank
abbrev pub blanks_among : ℕ → Values → ℕ
blanks_among n f = size (λ v. eq_z (f v) blank) n

-- what a call answers
pub data Answer : Type 0 where
  Accepted : (evaluations : ℕ) → Answer
  Refused : (number place : ℕ) → Answer

-- the paper's numbers for it: 0 and place 0 if accepted, no evaluations if refused
abbrev pub number_of : Answer → ℕ
number_of (Accepted evaluations) = 0
number_of (Refused number place) = number

abbrev pub place_of : Answer → ℕ
place_of (Accepted evaluations) = 0
place_of (Refused number place) = place

abbrev pub evaluations_of : Answer → ℕ
evaluations_of (Accepted evaluations) = evaluations
evaluations_of (Refused number place) = 0

-- the answer by a verdict, with the evaluations of an accepted call
abbrev pub answered : Verdict → ℕ → Answer
answered accepted count = Accepted count
answered (refused number place) count = Refused number place

-- ── what a move does by a route, over stored values `old` ──
module _ (t : Tables) (old : Values) (r : Route) (mv : List (ℕ × ℤ)) (asked : List ℕ) where
  -- the new values, and the variables that the route evaluates
  abbrev pub new_values : Values
  new_values = new (net t) r old (moved mv old) t.n

  abbrev pub evaluates : ℕ → Bool
  evaluates = evaluated (net t) r old (moved mv old) asked t.n

  -- the new value of every variable moved or evaluated, and old elsewhere
  abbrev pub trial_row : List ℤ → List ℤ
  trial_row = over t.n (λ v. cond (names mv v || evaluates v) (new_values v) (old v))

  -- 1 for each variable evaluated, and 0 elsewhere
  abbrev pub flag_row : List ℕ → List ℕ
  flag_row = over t.n (λ v. cond (evaluates v) 1 0)

-- 1: room for n + 1 starts and for a place of every entry
abbrev pub index_fits : Tables → Index → Bool
index_fits t x = leb (suc t.n) (length x.starts) && leb t.e (length x.places)

-- ── build ──
-- 1: bounds for n variables
abbrev pub bounds_fit : Tables → Bounds → Bool
bounds_fit t b = leb t.n (length b.lows) && leb t.n (length b.highs)

pub record BuildLent : Type 0 where
  pub session : Session
  pub tables : Tables
  pub bounds : Bounds
  pub starts : List ℤ
  pub numbers : List ℕ
  pub order : List ℕ
  pub stored : List ℤ
  pub index : Index
  pub reasons : List ℕ
  pub log_sizes : List ℕ

pub record BuildLeft : Type 0 where
  pub answer : Answer
  pub session : Session
  pub numbers : List ℕ
  pub order : List ℕ
  pub stored : List ℤ
  pub index : Index
  pub reasons : List ℕ
  pub log_sizes : List ℕ

module _ (l : BuildLent) where
  abbrev pub build_fits : Bool
  build_fits = let t = l.tables in
      sized t
      && every (
      leb t.n (length l.starts) ∷ leb t.n (length l.numbers) ∷ leb t.m (length l.order) ∷ leb t.n (length l.stored) ∷ index_fits t l.index
      ∷ leb 65 (length l.log_sizes) ∷ bounds_fit t l.bounds ∷ leb t.n (length l.reasons) ∷ [])

  abbrev pub start_values : Values
  start_values = values_in l.tables l.starts

  -- 1 to 5, and then 6, of chains that are not permitted, 7 and 20, of the start values
  abbrev pub five_lines : List Line
  five_lines = whole 1 0 build_fits ∷ table_lines l.tables l.bounds

  abbrev pub build_lines : List Line
  build_lines = let t = l.tables in
      five_lines ++ (places 6 t.n (permitted t) ∷ places 7 t.n (start_allowed t l.bounds start_values) ∷ places 20 t.n (determined t start_values) ∷ [])

  unfoldable pub build_verdict : Verdict
  build_verdict = by_lines build_lines accepted

  abbrev pub build_leaves : Verdict → BuildLeft
  build_leaves v = let t = l.tables in record {
    answer = answered v t.m;
    session = leaves v (record { kept = 0; evaluations = t.m; blanks = blanks_among t.n (worth t start_values) }) l.session;
    numbers = leaves v (over t.n (group_number t) l.numbers) l.numbers;
    order = leaves v (group_order t ++ drop t.m l.order) l.order;
    stored = leaves v (over t.n (worth t start_values) l.stored) l.stored;
    index = leaves v (index t l.index) l.index;
    reasons = leaves v (over t.n (λ u. reason_of t u (worth t start_values)) l.reasons) l.reasons;
    log_sizes = leaves v (set l.log_sizes 0 0) l.log_sizes;
  }

  unfoldable pub build : BuildLeft
  build = build_leaves build_verdict

  -- everything but the answer as it was lent; so for the other calls
  abbrev pub build_as_was : Answer → BuildLeft
  build_as_was a = record { answer = a; session = l.session; numbers = l.numbers; order = l.order; stored = l.stored; index = l.index; reasons = l.reasons; log_sizes = l.log_sizes }

-- ── trial, keep and taking back: the model as it is lent to each ──
pub record Model : Type 0 where
  pub tables : Tables
  pub bounds : Bounds
  pub numbers : List ℕ
  pub order : List ℕ
  pub stored : List ℤ
  pub index : Index
  pub reasons : List ℕ

-- a model without what its lent rows hold beyond the counts; the stored values and reasons are whole, since calls write them
abbrev pub up_to_counts : Model → Model
up_to_counts w = let n = w.tables.n in record {
  tables = bare w.tables;
  bounds = bounds_in (take n w.bounds.lows) (take n w.bounds.highs);
  numbers = take n w.numbers;
  order = take w.tables.m w.order;
  stored = w.stored;
  index = index_in (take (suc n) w.index.starts) (take w.tables.e w.index.places);
  reasons = w.reasons;
}

module _ (w : Model) where
  abbrev pub model_fits : Bool
  model_fits = let t = w.tables in
      sized t && every (leb t.n (length w.numbers) ∷ leb t.m (length w.order) ∷ leb t.n (length w.stored) ∷ index_fits t w.index ∷ bounds_fit t w.bounds
      ∷ leb t.n (length w.reasons) ∷ [])

  abbrev pub stored_values : Values
  stored_values = values_in w.tables w.stored

  -- 2 to 5, 8 of the numbers and order, 8 of the index, 19 of the record's number of blanks, and then 7
  abbrev pub model_lines : ℕ → List Line
  model_lines blanks = let t = w.tables in
      table_lines t w.bounds
      ++ (
      whole 8 0 (groups_numbered t w.numbers w.order) ∷ whole 8 0 (indexed t w.index)
      ∷ whole 19 0 (eqb blanks (blanks_among t.n stored_values)) ∷ places 7 t.n (stored_allowed t w.bounds stored_values) ∷ [])

-- ── trial ──
pub record TrialLent : Type 0 where
  pub move : Move
  pub asked : ℕ
  pub asked_vars : List ℕ
  pub route : ℕ
  pub results : List ℤ
  pub trial : List ℤ
  pub flags : List ℕ
  pub why : List ℕ

-- the variables asked, and nothing of the lent row beyond them
abbrev pub asked_list : TrialLent → List ℕ
asked_list c = take c.asked c.asked_vars

abbrev pub route_of : ℕ → Route
route_of r = cond (eqb r 1) input-to-output (cond (eqb r 2) output-to-input mark-guided)

pub record TrialLeft : Type 0 where
  pub answer : Answer
  pub session : Session
  pub results : List ℤ
  pub trial : List ℤ
  pub flags : List ℕ
  pub why : List ℕ

module _ (w : Model) (c : TrialLent) where
  abbrev pub trial_fits : Bool
  trial_fits = let n = w.tables.n in
      every (
      model_fits w ∷ move_fits c.move ∷ leb c.asked 32 ∷ leb c.asked (length c.asked_vars)
      ∷ leb c.asked (length c.results) ∷ leb n (length c.trial) ∷ leb n (length c.flags) ∷ leb c.asked (length c.why) ∷ [])

  -- the reason of every variable asked; the stored one of a variable that is not evaluated
  abbrev pub asked_reasons : List ℕ → List ℕ
  asked_reasons =
      let t = w.tables in let old = stored_values w in let r = route_of c.route in let mv = pairs_of_move c.move in let asked = asked_list c in
      over c.asked (λ i. reason_after t (evaluates t old r mv asked) (new_values t old r mv asked) (nat w.reasons) (nat c.asked_vars i))

  abbrev pub trial_leaves : Session → Verdict → TrialLeft
  trial_leaves s v =
      let t = w.tables in let old = stored_values w in let r = route_of c.route in let mv = pairs_of_move c.move in let asked = asked_list c in
      let count = size (evaluates t old r mv asked) t.n in
      record {
        answer = answered v count;
        session = leaves v (record { kept = s.kept; evaluations = count; blanks = s.blanks }) s;
        results = leaves v (over c.asked (λ i. new_values t old r mv asked (nat c.asked_vars i)) c.results) c.results;
        trial = leaves v (trial_row t old r mv asked c.trial) c.trial;
        flags = leaves v (flag_row t old r mv asked c.flags) c.flags;
        why = leaves v (asked_reasons c.why) c.why;
      }

abbrev pub trial_lines : Session → Model → TrialLent → List Line
trial_lines s w c = let t = w.tables in
    whole 1 0 (trial_fits w c) ∷ (model_lines w s.blanks ++ (whole 9 0 (between 1 c.route 3) ∷ [])
    ++ move_lines c.move t w.bounds ++ (places 13 c.asked (λ i. ltb (nat c.asked_vars i) t.n) ∷ []) ++ fresh_lines c.move t (stored_values w))

unfoldable pub trial_verdict : Session → Model → TrialLent → Verdict
trial_verdict s w c = by_lines (trial_lines s w c) accepted

unfoldable pub trial : Session → Model → TrialLent → TrialLeft
trial s w c = trial_leaves w c s (trial_verdict s w c)

abbrev pub trial_as_was : Session → TrialLent → Answer → TrialLeft
trial_as_was s c a = record { answer = a; session = s; results = c.results; trial = c.trial; flags = c.flags; why = c.why }

-- ── keep: by route 1, with nothing asked ──
pub record KeepLent : Type 0 where
  pub move : Move
  pub flags : List ℕ

-- what a move leaves by that route over stored values: the evaluations, how many are then blank, the stored values, the flags and the reasons
module _ (t : Tables) (stored : List ℤ) (c : KeepLent) where
  abbrev pub kept_count : ℕ
  kept_count = size (evaluates t (values_in t stored) input-to-output (pairs_of_move c.move) []) t.n

  abbrev pub kept_blanks : ℕ
  kept_blanks = blanks_among t.n (new_values t (values_in t stored) input-to-output (pairs_of_move c.move) [])

  abbrev pub kept_stored : List ℤ
  kept_stored = over t.n (new_values t (values_in t stored) input-to-output (pairs_of_move c.move) []) stored

  abbrev pub kept_flags : List ℕ
  kept_flags = flag_row t (values_in t stored) input-to-output (pairs_of_move c.move) [] c.flags

  -- the reason of every variable: the stored one of a variable that is not evaluated, and 0 for a search variable
  abbrev pub kept_reasons : List ℕ → List ℕ
  kept_reasons reasons = let old = values_in t stored in let mv = pairs_of_move c.move in
      over t.n (reason_kept t (evaluates t old input-to-output mv []) (new_values t old input-to-output mv []) (nat reasons)) reasons

-- what keep and taking back leave
pub record KeepLeft : Type 0 where
  pub answer : Answer
  pub session : Session
  pub stored : List ℤ
  pub reasons : List ℕ
  pub flags : List ℕ
  pub log : Log

-- after an accepted call by a move, with that number kept and that log; as it was after a refused one
abbrev pub move_leaves : Session → Log → Model → KeepLent → ℕ → Log → Verdict → KeepLeft
move_leaves s l w c number log v = let t = w.tables in let count = kept_count t w.stored c in record {
  answer = answered v count;
  session = leaves v (record { kept = number; evaluations = count; blanks = kept_blanks t w.stored c }) s;
  stored = leaves v (kept_stored t w.stored c) w.stored;
  reasons = leaves v (kept_reasons t w.stored c w.reasons) w.reasons;
  flags = leaves v (kept_flags t w.stored c) c.flags;
  log = leaves v log l;
}

-- of keep and of taking back; the flags are those lent
abbrev pub keep_as_was : Session → Log → Model → List ℕ → Answer → KeepLeft
keep_as_was s l w flags a = record { answer = a; session = s; stored = w.stored; reasons = w.reasons; flags = flags; log = l }

abbrev pub keep_fits : Log → Model → KeepLent → Bool
keep_fits l w c = every (model_fits w ∷ move_fits c.move ∷ leb w.tables.n (length c.flags) ∷ log_fits l ∷ [])

module _ (s : Session) (l : Log) (w : Model) (c : KeepLent) where
  abbrev pub keep_lines : List Line
  keep_lines = let t = w.tables in
      whole 1 0 (keep_fits l w c) ∷ (model_lines w s.blanks ++ move_lines c.move t w.bounds ++ (whole 16 0 (log_good l t w.bounds s.kept) ∷ [])
      ++ fresh_lines c.move t (stored_values w))

  unfoldable pub keep_verdict : Verdict
  keep_verdict = by_lines keep_lines accepted

  -- one more move kept, and it is noted
  abbrev pub keep_leaves : Verdict → KeepLeft
  keep_leaves = move_leaves s l w c (min (suc s.kept) 4294967295) (noted l (stored_values w) c.move)

  unfoldable pub keep : KeepLeft
  keep = keep_leaves keep_verdict

-- ── taking back the latest kept move: its variables get the values before it, by route 1 ──
pub record TakeLent : Type 0 where
  pub flags : List ℕ

abbrev pub latest : Log → TakeLent → KeepLent
latest l c = record { move = back l (pred (logged l)); flags = c.flags }

abbrev pub take_fits : Log → Model → TakeLent → Bool
take_fits l w c = every (model_fits w ∷ leb w.tables.n (length c.flags) ∷ log_fits l ∷ [])

module _ (s : Session) (l : Log) (w : Model) (c : TakeLent) where
  -- 15 is of a log with no move
  abbrev pub take_lines : List Line
  take_lines = let t = w.tables in
      whole 1 0 (take_fits l w c) ∷ (model_lines w s.blanks ++ (whole 16 0 (log_good l t w.bounds s.kept) ∷ whole 15 0 (ltb 0 (logged l)) ∷ [])
      ++ fresh_lines (latest l c).move t (stored_values w))

  unfoldable pub take_verdict : Verdict
  take_verdict = by_lines take_lines accepted

  -- one move kept fewer unless the number stands at its ceiling, and the log is without it
  abbrev pub take_leaves : Verdict → KeepLeft
  take_leaves = move_leaves s l w (latest l c) (cond (ltb s.kept 4294967295) (pred s.kept) s.kept) (dropped l)

  unfoldable pub take_back : KeepLeft
  take_back = take_leaves take_verdict
