-- The three demands, over every outcome that the public calls' contracts allow. The contracts ask nothing of what is handed in, and a proved
-- call ends; the rest stands here. `proofs/One`, `Two` and `Three` prove it. Assumes nothing.
use Rattle.std.specs.Prelude.{ℕ, suc, pred, min, ◌<◌, ◌≤◌, Bool, true, cond, ◌||◌, List, [], ◌∷◌, ◌++◌, map, ◌≡◌, eqb, ltb, ℤ, length, set, take, drop}
use Rattle.paper.specs.Lists.{nat, size, tally, over}
use Rattle.paper.specs.Net.{Values, Route, valuation, input-to-output, Depends, moved, names, evaluated}
use Rattle.paper.specs.Tables.{Tables, net, inputs_of, values_in, index}
use Rattle.paper.specs.Chains.{group_numbering, group_order, worth, determined, stored_fresh, Barred, Circular}
use Rattle.paper.specs.Checks.{accepted, lowest, highest, Move, pairs_of_move}
use Rattle.paper.specs.Log.{Log, logged, log_good}
use Rattle.paper.specs.Calls.{Session, blanks_among, number_of, evaluations_of, answered, evaluates, BuildLent, BuildLeft, start_values, five_lines, build_lines, Model, stored_values, TrialLent, TrialLeft, asked_list, route_of, trial_lines, KeepLent, KeepLeft, kept_count, keep_lines, TakeLent, take_lines, latest, build_as_was, trial_as_was, keep_as_was}
use Rattle.paper.specs.File.{Version, bounded, ends_at, Contents, contents, counted, held, write_lines, n_in, m_in, e_in, read_lines, convert_lines, Fitting, cut}
use Rattle.paper.specs.Moves.{Moves, rest, applied}
use Rattle.paper.specs.Reason.{reason_of}
use Rattle.records.specs.Stated.{BuildOutcome, left_built, TrialOutcome, left_tried, KeepOutcome, left_kept, TakeOutcome, left_taken}
use Rattle.files.specs.Stated.{WriteOutcome, left_written, ReadOutcome, left_read, MoveOutcome, left_moved}
use Rattle.demands.specs.Sentences.{SentencesRight}
use Rattle.demands.specs.Refusals.{line_number, Works, GivenExactly, ChoicesExactly}
use Rattle.demands.specs.Runs.{State, Lent, lent_of, Lends, model_of, after_trial, passed_on, Mine, Run}

-- ── demand 1: a call works, or refuses with the paper's number and place exactly where the table gives them, and then changes nothing ──
pub record Demand1 : Type 0 where
  -- the numbers that the four calls and moves between versions give, in the order in which they are checked
  pub build-numbers : (l : BuildLent) → map line_number (build_lines l) ≡ 1 ∷ 2 ∷ 3 ∷ 3 ∷ 4 ∷ 4 ∷ 5 ∷ 6 ∷ 7 ∷ 20 ∷ []
  pub trial-numbers : (s : Session) (w : Model) (c : TrialLent) → map line_number (trial_lines s w c) ≡ 1 ∷ 2 ∷ 3 ∷ 3 ∷ 4 ∷ 4 ∷ 5 ∷ 8 ∷ 8 ∷ 19 ∷ 7 ∷ 9 ∷ 10 ∷ 11 ∷ 12 ∷ 17 ∷ 13 ∷ 21 ∷ 20 ∷ []
  pub keep-numbers : (s : Session) (g : Log) (w : Model) (c : KeepLent) → map line_number (keep_lines s g w c) ≡ 1 ∷ 2 ∷ 3 ∷ 3 ∷ 4 ∷ 4 ∷ 5 ∷ 8 ∷ 8 ∷ 19 ∷ 7 ∷ 10 ∷ 11 ∷ 12 ∷ 17 ∷ 16 ∷ 21 ∷ 20 ∷ []
  pub take-numbers : (s : Session) (g : Log) (w : Model) (c : TakeLent) → map line_number (take_lines s g w c) ≡ 1 ∷ 2 ∷ 3 ∷ 3 ∷ 4 ∷ 4 ∷ 5 ∷ 8 ∷ 8 ∷ 19 ∷ 7 ∷ 16 ∷ 15 ∷ 21 ∷ 20 ∷ []
  pub move-numbers : (from to : Version) (bytes lent : List ℕ) → map line_number (convert_lines from to bytes lent) ≡ 14 ∷ 14 ∷ 14 ∷ 14 ∷ 14 ∷ 14 ∷ 14 ∷ 14 ∷ 14 ∷ 14 ∷ 18 ∷ 1 ∷ []
  -- each answers by its table
  pub build : (l : BuildLent) (o : BuildOutcome l) → Works (build_lines l) l.tables.m (λ (x : BuildLeft). x.answer) (λ x. build_as_was l x.answer) (left_built o)
  pub trial : (s : Session) (w : Model) (c : TrialLent) (o : TrialOutcome s w c) → let t = w.tables in
      let count = size (evaluates t (stored_values w) (route_of c.route) (pairs_of_move c.move) (asked_list c)) t.n in
      Works (trial_lines s w c) count (λ (x : TrialLeft). x.answer) (λ x. trial_as_was s c x.answer) (left_tried o)
  pub keep : (s : Session) (g : Log) (w : Model) (c : KeepLent) (o : KeepOutcome s g w c)
      → Works (keep_lines s g w c) (kept_count w.tables w.stored c) (λ (x : KeepLeft). x.answer) (λ x. keep_as_was s g w c.flags x.answer) (left_kept o)
  pub take_back : (s : Session) (g : Log) (w : Model) (c : TakeLent) (o : TakeOutcome s g w c)
      → Works (take_lines s g w c) (kept_count w.tables w.stored (latest g c)) (λ (x : KeepLeft). x.answer) (λ x. keep_as_was s g w c.flags x.answer) (left_taken o)
  pub write : (v : Version) (c : Contents) (lent : List ℕ) (o : WriteOutcome v c lent) → Works (write_lines v c lent) 0 (λ x. answered x.0 0) (λ x. (x.0, lent)) (left_written o)
  pub read : (v : Version) (bytes : List ℕ) (lent : Contents) (o : ReadOutcome v bytes lent) → Works (read_lines v bytes lent) 0 (λ x. answered x.0 0) (λ x. (x.0, counted 0 0 0 lent)) (left_read o)
  pub move : (from to : Version) (bytes lent : List ℕ) (o : MoveOutcome from to bytes lent) → Works (convert_lines from to bytes lent) 0 (λ x. answered x.0 0) (λ x. (x.0, (0, lent))) (left_moved o)
  -- any two outcomes that a statement allows are equal: the answer, the record, every row to its end
  pub build-one : (l : BuildLent) (o o' : BuildOutcome l) → (o.done ≡ o'.done) × (left_built o ≡ left_built o')
  pub trial-one : (s : Session) (w : Model) (c : TrialLent) (o o' : TrialOutcome s w c) → (o.done ≡ o'.done) × (left_tried o ≡ left_tried o')
  pub keep_one : (s : Session) (g : Log) (w : Model) (c : KeepLent) (o o' : KeepOutcome s g w c) → (o.done ≡ o'.done) × (left_kept o ≡ left_kept o')
  pub take-one : (s : Session) (g : Log) (w : Model) (c : TakeLent) (o o' : TakeOutcome s g w c) → (o.done ≡ o'.done) × (left_taken o ≡ left_taken o')
  pub write-one : (v : Version) (c : Contents) (lent : List ℕ) (o o' : WriteOutcome v c lent) → (o.answer ≡ o'.answer) × (o.bytes ≡ o'.bytes)
  pub read_one : (v : Version) (bytes : List ℕ) (lent : Contents) (o o' : ReadOutcome v bytes lent) → (o.answer ≡ o'.answer) × (counted 0 0 0 o.rows ≡ counted 0 0 0 o'.rows)
  pub move-one : (from to : Version) (bytes lent : List ℕ) (o o' : MoveOutcome from to bytes lent) → (o.answer ≡ o'.answer) × (o.buffer ≡ o'.buffer)

-- ── demand 2: every value is the one its formula gives ──
-- an accepted build
pub record BuiltRight {l : BuildLent} (o : BuildOutcome l) : Type 0 where
  -- every closed chain of inputs is permitted, and working any variable out ends
  pub not-circular : Circular l.tables → ⊥
  pub determined : (v : ℕ) → v < l.tables.n → determined l.tables (start_values l) v ≡ true
  -- each number is 0 at a search variable, and 1 plus the greatest among the inputs of its group from outside it at a made one
  pub numbers : (v : ℕ) → v < l.tables.n → nat o.numbers v ≡ group_numbering l.tables (nat o.numbers) v
  -- variables that depend on each other share theirs
  pub shared : (v w : ℕ) → Depends (inputs_of l.tables) v w → Depends (inputs_of l.tables) w v → nat o.numbers v ≡ nat o.numbers w
  -- the rows by these numbers
  pub ordered : o.order ≡ group_order l.tables ++ drop l.tables.m l.order
  -- the rows that read each variable
  pub indexed : o.index ≡ index l.tables l.index
  -- the log is empty
  pub empty : o.log_sizes ≡ set l.log_sizes 0 0
  -- each value is the start value at a search variable, and what the formula gives of the inputs' values at a made one
  pub stored : (v : ℕ) → v < l.tables.n → values_in l.tables o.stored v ≡ valuation (net l.tables) (start_values l) (values_in l.tables o.stored) v
  -- the reason of each variable over these values
  pub reasons : o.reasons ≡ over l.tables.n (λ v. reason_of l.tables v (values_in l.tables o.stored)) l.reasons
  -- and the record says that no move is kept, that all m rows were evaluated, and how many values are blank
  pub session : (left_built o).session ≡ record { kept = 0; evaluations = l.tables.m; blanks = blanks_among l.tables.n (values_in l.tables o.stored) }

pub record Demand2 : Type 0 where
  -- each formula, each reason and what is determined, in the paper's sentences
  pub sentences : SentencesRight
  pub build-accepted : (l : BuildLent) (o : BuildOutcome l) → number_of (left_built o).answer ≡ 0 → BuiltRight o
  -- circular exactly if some closed chain is not permitted: it passes through no candidate of an ELEMENT, or through the index of one; at the least
  -- variable on such a chain
  pub build-circular : (l : BuildLent) (o : BuildOutcome l) → GivenExactly (five_lines l) 6 l.tables.n (Barred l.tables) (left_built o).answer
  -- 20 and 21 exactly where the choices lead round a chain, or a stored value is stale, at the least such variable
  pub choices : ChoicesExactly
  -- what was written is read back to the same tables, start values and bounds, by lent rows that hold them
  pub read_back : (v : Version) (c : Contents) (lent : List ℕ) (w : WriteOutcome v c lent) → Fitting v c → (left_written w).0 ≡ accepted
      → let t = c.tables in (c₀ : Contents) → held v (counted t.n t.m t.e c₀) ≡ true
      → (r : ReadOutcome v (take (ends_at v t.n t.m t.e) w.bytes) c₀) → ((left_read r).0 ≡ accepted) × (cut v (left_read r).1 ≡ cut v c)
  -- what was read is written back to the same bytes, into any buffer that holds them
  pub written_back : (v : Version) (bytes : List ℕ) → ((i : ℕ) → nat bytes i < 256) → (c₀ : Contents) (r : ReadOutcome v bytes c₀) → (left_read r).0 ≡ accepted
      → (lent : List ℕ) → length bytes ≤ length lent → (w : WriteOutcome v (left_read r).1 lent) → left_written w ≡ (accepted, bytes ++ drop (length bytes) lent)
  -- a file that was moved to another version comes back the same
  pub there_and_back : (from to : Version) (bytes : List ℕ) → ((i : ℕ) → nat bytes i < 256) → (lent : List ℕ) (o : MoveOutcome from to bytes lent) → (left_moved o).0 ≡ accepted
      → (lent₂ : List ℕ) → length bytes ≤ length lent₂
      → (p : MoveOutcome to from (take (left_moved o).1.0 o.buffer) lent₂) → left_moved p ≡ (accepted, (length bytes, bytes ++ drop (length bytes) lent₂))
  -- and is read there to the same tables and start values, with full bounds; each reader is lent bounds of its own
  pub same-model : (from to : Version) (bytes lent : List ℕ) (o : MoveOutcome from to bytes lent) → (left_moved o).0 ≡ accepted
      → (t : Tables) (starts lows₀ highs₀ lows highs : List ℤ) → held to (counted (n_in bytes) (m_in bytes) (e_in bytes) (contents t starts lows highs)) ≡ true
      → (r : ReadOutcome from bytes (contents t starts lows₀ highs₀)) → (left_read r).0 ≡ accepted
      → (p : ReadOutcome to (take (left_moved o).1.0 o.buffer) (contents t starts lows highs)) → let there = (left_read r).1 in let k = bounded to (n_in bytes) in
      left_read p ≡ (accepted, contents there.tables there.starts (over k (λ v. lowest) lows) (over k (λ v. highest) highs))

-- ── demand 3: over any run of trials, kept moves and takings back after an accepted build ──
-- the values worked out afresh from the start values with these moves applied
abbrev pub fresh : BuildLent → Moves → Values
fresh b moves = worth b.tables (applied (start_values b) moves)

-- the reasons over some values, in the row that build was lent
abbrev pub reasons_over : BuildLent → Values → List ℕ
reasons_over b f = over b.tables.n (λ v. reason_of b.tables v f) b.reasons

module _ (b : BuildLent) (moves : Moves) where
  -- those of the moves kept and not taken back, of one more move, and without the latest
  abbrev pub old : Values
  old = fresh b moves

  abbrev pub renewed : Move → Values
  renewed mv = fresh b (pairs_of_move mv ∷ moves)

  abbrev pub restored : Values
  restored = fresh b (rest moves)

  -- the variables that a route evaluates over the old values
  abbrev pub evaluated_by : Route → Move → List ℕ → ℕ → Bool
  evaluated_by r mv asked = evaluated (net b.tables) r old (moved (pairs_of_move mv) old) asked b.tables.n

  -- flags are 1 at a set of variables and 0 elsewhere, and the count is its size and so the number of ones
  pub record Told (set : ℕ → Bool) (count : ℕ) (flags before : List ℕ) : Type 0 where
    pub flags-are : flags ≡ over b.tables.n (λ v. cond (set v) 1 0) before
    pub set-size : count ≡ size set b.tables.n
    pub ones : count ≡ tally (eqb 1) (take b.tables.n flags)

  -- an accepted trial, by any route: at each place asked the value worked out afresh and its reason, in the trial's row the new value where moved or
  -- evaluated and the old one elsewhere, and the evaluations are the size of the route's set
  pub record TrialFresh (now : State) (c : TrialLent) (x : TrialLeft) : Type 0 where
    pub results : x.results ≡ over c.asked (λ i. renewed c.move (nat c.asked_vars i)) c.results
    pub why : x.why ≡ over c.asked (λ i. reason_of b.tables (nat c.asked_vars i) (renewed c.move)) c.why
    pub row : let set = evaluated_by (route_of c.route) c.move (asked_list c) in
        x.trial ≡ over b.tables.n (λ v. cond (names (pairs_of_move c.move) v || set v) (renewed c.move v) (old v)) c.trial
    pub told : Told (evaluated_by (route_of c.route) c.move (asked_list c)) (evaluations_of x.answer) x.flags c.flags
    pub session : x.session ≡ record { kept = now.session.kept; evaluations = evaluations_of x.answer; blanks = blanks_among b.tables.n old }

  -- an accepted keep: it leaves exactly the fresh values and the reasons over them, one more move is kept, and one more can be taken back, 64 at most
  pub record KeepFresh (now : State) (c : KeepLent) (x : KeepLeft) : Type 0 where
    pub stored : x.stored ≡ over b.tables.n (renewed c.move) b.stored
    pub reasons : x.reasons ≡ reasons_over b (renewed c.move)
    pub told : Told (evaluated_by input-to-output c.move []) (evaluations_of x.answer) x.flags c.flags
    pub session : x.session
        ≡ record { kept = min (suc now.session.kept) 4294967295; evaluations = evaluations_of x.answer; blanks = blanks_among b.tables.n (renewed c.move) }
    pub more : logged x.log ≡ min (suc (logged now.log)) 64

  -- an accepted taking back: exactly the values before the latest move that was kept and not taken back, the reasons over them, and one move fewer
  pub record TakeFresh (now : State) (c : TakeLent) (x : KeepLeft) : Type 0 where
    pub stored : x.stored ≡ over b.tables.n restored b.stored
    pub reasons : x.reasons ≡ reasons_over b restored
    pub told : Told (evaluated_by input-to-output (latest now.log c).move []) (evaluations_of x.answer) x.flags c.flags
    pub session : let k = now.session.kept in
        x.session ≡ record { kept = cond (ltb k 4294967295) (pred k) k; evaluations = evaluations_of x.answer; blanks = blanks_among b.tables.n restored }
    pub fewer : logged x.log ≡ pred (logged now.log)

-- what holds after every run of that many calls, with these moves kept and not taken back
pub record RunRight {b : BuildLent} (start : BuildOutcome b) (room : List ℕ × List ℤ) (calls : ℕ) (moves : Moves) (now : State) : Type 0 where
  -- the stored values are the fresh ones of the moves kept and not taken back, the reasons those over them, and what lies beyond is as build was lent it
  pub stored : now.stored ≡ over b.tables.n (old b moves) b.stored
  pub reasons : now.reasons ≡ reasons_over b (old b moves)
  -- where a chain closes every variable is determined by the search variables among them, and its stored value is the fresh one: 21 is not given for them
  pub fresh : (v : ℕ) → v < b.tables.n → stored_fresh b.tables (values_in b.tables now.stored) v ≡ true
  -- the record has the number of these moves, as long as there were too few calls to reach its ceiling, and of the blank values
  pub counted : calls < 4294967295 → now.session.kept ≡ length moves
  pub blanks : now.session.blanks ≡ blanks_among b.tables.n (old b moves)
  -- the log is fit, and has no more moves than these
  pub log-good : log_good now.log b.tables b.bounds now.session.kept ≡ true
  pub log-low : logged now.log ≤ length moves
  -- the next call, if it is accepted and was lent the model's own
  pub trial-accepted : (w : Model) → Mine start now w → (c : TrialLent) (o : TrialOutcome now.session w c) → number_of (left_tried o).answer ≡ 0 → TrialFresh b moves now c (left_tried o)
  pub keep-accepted : (w : Model) → Mine start now w → (c : KeepLent) (o : KeepOutcome now.session now.log w c) → number_of (left_kept o).answer ≡ 0 → KeepFresh b moves now c (left_kept o)
  pub take-accepted : (w : Model) → Mine start now w → (c : TakeLent) (o : TakeOutcome now.session now.log w c) → number_of (left_taken o).answer ≡ 0 → TakeFresh b moves now c (left_taken o)
  -- a taking back is accepted, where the log is not empty and the row of flags long enough
  pub take-works : 0 < logged now.log → (w : Model) → Mine start now w → (c : TakeLent) → b.tables.n ≤ length c.flags
      → (o : TakeOutcome now.session now.log w c) → number_of (left_taken o).answer ≡ 0
  -- a refused call leaves the state, whatever it was lent. That no trial alters a stored value or a reason needs no field: it is lent them to read only (`after_trial`)
  pub trial-refused : (l : Lends) (c : TrialLent) (o : TrialOutcome now.session (model_of now l) c) → (number_of (left_tried o).answer ≡ 0 → ⊥) → after_trial now (left_tried o).session ≡ now
  pub keep-refused : (l : Lends) (g : Lent Log) (c : KeepLent) (o : KeepOutcome now.session (lent_of g now.log) (model_of now l) c) → (number_of (left_kept o).answer ≡ 0 → ⊥)
      → passed_on now l g (left_kept o) ≡ now
  pub take-refused : (l : Lends) (g : Lent Log) (c : TakeLent) (o : TakeOutcome now.session (lent_of g now.log) (model_of now l) c) → (number_of (left_taken o).answer ≡ 0 → ⊥)
      → passed_on now l g (left_taken o) ≡ now

pub record Demand3 : Type 0 where
  pub run : (b : BuildLent) (start : BuildOutcome b) (room : List ℕ × List ℤ) → number_of (left_built start).answer ≡ 0
      → (calls : ℕ) (moves : Moves) (now : State) → Run start room calls moves now → RunRight start room calls moves now
