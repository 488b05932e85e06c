-- Two planners, each with a move, and no variable in both. Where both are accepted in each order it does not matter who keeps first: the stored values
-- are the same, and one keep of all the pairs, where it is accepted too, leaves them as well. Where no chain of inputs closes they are all accepted. This
-- is said of every outcome that the public calls' contracts allow, after any run of calls that an accepted build began. `proofs/Planners` proves it.
-- Assumes nothing.
use Rattle.std.specs.Prelude.{ℕ, ◌+◌, ◌≤◌, false, List, ◌≡◌, length, ℤ}
use Rattle.paper.specs.Chains.{closes}
use Rattle.paper.specs.Checks.{Move}
use Rattle.paper.specs.Calls.{number_of, BuildLent, Model}
use Rattle.paper.specs.Moves.{Moves, Apart, AllPairs, both_moves}
use Rattle.records.specs.Stated.{BuildOutcome, left_built, KeepOutcome, left_kept}
use Rattle.demands.specs.Runs.{State, Mine, Run}

module _ {b : BuildLent} (start : BuildOutcome b) where
  -- a keep of a move, lent the model's own up to its counts, the session's log and a row of flags
  pub record Keeping (now : State) (mv : Move) (flags : List ℕ) : Type 0 where
    pub lent : Model
    pub like : Mine start now lent
    pub outcome : KeepOutcome now.session now.log lent (record { move = mv; flags = flags })

  -- it was accepted
  abbrev pub Accepts : {now : State} {mv : Move} {flags : List ℕ} → Keeping now mv flags → Type 0
  Accepts o = number_of (left_kept o.outcome).answer ≡ 0

  -- what it hands on, and its stored values among it
  abbrev pub hands_on : {now : State} {mv : Move} {flags : List ℕ} → Keeping now mv flags → State
  hands_on o = let x = left_kept o.outcome in record { session = x.session; stored = x.stored; reasons = x.reasons; log = x.log }

  -- a row of flags that is long enough
  abbrev pub Room : List ℕ → Type 0
  Room flags = b.tables.n ≤ length flags

  -- each of the two may keep first
  pub record EitherOrder (now : State) (first second : Move) (f g : List ℕ) (o : Keeping now first f) (p : Keeping now second g) : Type 0 where
    -- if the other's move is accepted too, in each order, the stored values are the same, to the end of the row
    pub same : (flags flags' : List ℕ)
        → (q : Keeping (hands_on o) second flags) (r : Keeping (hands_on p) first flags') → Accepts q → Accepts r → (hands_on q).stored ≡ (hands_on r).stored
    -- one move of all the pairs, if it is accepted too, leaves the same
    pub as_one : (one : Move) → AllPairs first second one
        → (flags flags' : List ℕ) (q : Keeping (hands_on o) second flags) (j : Keeping now one flags') → Accepts q → Accepts j → (hands_on j).stored ≡ (hands_on q).stored
    -- there is such a move if the pairs are at most 64
    pub all-pairs : first.pairs + second.pairs ≤ 64 → AllPairs first second (both_moves first second)
    -- it is enough that one of the three is accepted: so are the others then, with rows of flags that are long enough
    pub first-too : (flags flags' : List ℕ) → Room flags' → (q : Keeping (hands_on o) second flags) (r : Keeping (hands_on p) first flags') → Accepts q → Accepts r
    pub second-too : (flags flags' : List ℕ) → Room flags → (q : Keeping (hands_on o) second flags) (r : Keeping (hands_on p) first flags') → Accepts r → Accepts q
    pub one-too : (one : Move) → AllPairs first second one
        → (flags flags' : List ℕ) → Room flags' → (q : Keeping (hands_on o) second flags) (j : Keeping now one flags') → Accepts q → Accepts j
    pub two-too : (one : Move) → AllPairs first second one
        → (flags flags' : List ℕ) → Room flags → (q : Keeping (hands_on o) second flags) (j : Keeping now one flags') → Accepts j → Accepts q
    -- they are accepted where no chain of inputs closes
    pub second-accepted : closes b.tables ≡ false
        → (flags : List ℕ) → Room flags → (q : Keeping (hands_on o) second flags) → Accepts q
    pub first-accepted : closes b.tables ≡ false
        → (flags : List ℕ) → Room flags → (r : Keeping (hands_on p) first flags) → Accepts r
    pub one-accepted : closes b.tables ≡ false
        → (one : Move) → AllPairs first second one → (flags : List ℕ) → Room flags → (j : Keeping now one flags) → Accepts j

abbrev pub TwoPlanners : Type 0
TwoPlanners =
    (b : BuildLent) (start : BuildOutcome b) (room : List ℕ × List ℤ) → number_of (left_built start).answer ≡ 0 → (calls : ℕ) (moves : Moves) (now : State) → Run start room calls moves now
    → (first second : Move)
    → Apart first second
    → (f g : List ℕ) (o : Keeping start now first f) (p : Keeping start now second g) → Accepts start o → Accepts start p
    → EitherOrder start now first second f g o p
