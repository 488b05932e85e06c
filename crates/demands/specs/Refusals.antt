-- What it is that a list of lines of the table of refusals gives a number and a place, or accepts; that a call answers by its list; and exactly which calls give a
-- number of the chains, and at which variable: 20 and 21 link by link, as 6 is said. Assumes nothing.
use Rattle.std.specs.Prelude.{ℕ, ◌<◌, true, false, List, [], ◌∷◌, ◌⊎◌, ◌≡◌}
use Rattle.paper.specs.Net.{Values, Depends, moved}
use Rattle.paper.specs.Tables.{Tables, inputs_of}
use Rattle.paper.specs.Chains.{worth, LeastOf}
use Rattle.paper.specs.Checks.{Line, places, whole, pairs_of_move}
use Rattle.paper.specs.Log.{Log}
use Rattle.paper.specs.Calls.{Session, Answer, Accepted, Refused, number_of, place_of, BuildLent, start_values, build_lines, Model, stored_values, TrialLent, trial_lines, KeepLent, keep_lines, latest, TakeLent, take_lines}
use Rattle.records.specs.Stated.{BuildOutcome, left_built, TrialOutcome, left_tried, KeepOutcome, left_kept, TakeOutcome, left_taken}
use Rattle.demands.specs.Sentences.{Undetermined}

-- ── what a list says ──
abbrev pub line_number : Line → ℕ
line_number (places number bound good) = number
line_number (whole number place good) = number

abbrev pub Passed : Line → Type 0
Passed (places number bound good) = (i : ℕ) → i < bound → good i ≡ true
Passed (whole number place good) = good ≡ true

abbrev pub Fails : Line → ℕ → ℕ → Type 0
Fails (places number bound good) k p = (number ≡ k) × LeastOf bound (λ i. good i ≡ false) p
Fails (whole number place good) k p = (number ≡ k) × (place ≡ p) × (good ≡ false)

-- it accepts: every line is passed
pub data Passes : List Line → Type 0 where
  none : Passes []
  next : {line : Line} {rest : List Line} → Passed line → Passes rest → Passes (line ∷ rest)

-- it gives k and p: the first line that fails has the number k, and fails at p
pub data Gives (k p : ℕ) : List Line → Type 0 where
  here : {line : Line} {rest : List Line} → Fails line k p → Gives k p (line ∷ rest)
  later : {line : Line} {rest : List Line} → Passed line → Gives k p rest → Gives k p (line ∷ rest)

-- ── a call answers by its list; an accepted answer has that count of evaluations ──
pub record Exactly (table : List Line) (count : ℕ) (a : Answer) : Type 0 where
  pub accepted-if : Passes table → a ≡ Accepted count
  pub accepted-only : number_of a ≡ 0 → Passes table
  pub refused-if : (k p : ℕ) → Gives k p table → a ≡ Refused k p
  pub refused-only : (number_of a ≡ 0 → ⊥) → Gives (number_of a) (place_of a) table

-- x is what a call leaves; `as_was` puts all but the answer as it was lent
pub record Works {Left : Type 0} (table : List Line) (count : ℕ) (answer : Left → Answer) (as_was : Left → Left) (x : Left) : Type 0 where
  pub exactly : Exactly table count (answer x)
  pub unchanged : (number_of (answer x) ≡ 0 → ⊥) → x ≡ as_was x

-- a number is given exactly if the lines before it are passed and something holds of a variable, at the least such variable
pub record GivenExactly (before : List Line) (number n : ℕ) (holds : ℕ → Type 0) (a : Answer) : Type 0 where
  pub given : Passes before → (v : ℕ) → v < n → holds v → number_of a ≡ number
  pub only : number_of a ≡ number → Passes before
  pub place : number_of a ≡ number → LeastOf n holds (place_of a)
  pub none : number_of a ≡ 0 → (v : ℕ) → v < n → holds v → ⊥

-- ── 20: working v out comes to a variable that needs itself; s are the values that the search variables have after the call ──
-- the lines of a table but the last
abbrev pub before_last : List Line → List Line
before_last [] = []
before_last (line ∷ []) = []
before_last (line ∷ another ∷ rest) = line ∷ before_last (another ∷ rest)

-- it is the last line of its table
abbrev pub UndeterminedExactly : List Line → Tables → Values → Answer → Type 0
UndeterminedExactly table t s = GivenExactly (before_last table) 20 t.n (Undetermined t s)

-- ── 21: some chain of inputs closes, and v is not determined by the stored values, or its stored value is not the fresh one ──
abbrev pub Stale : Tables → Values → ℕ → Type 0
Stale t old v = ((u : ℕ) × Depends (inputs_of t) u u) × (Undetermined t old v ⊎ (old v ≡ worth t old v → ⊥))

-- it is the last line but one
abbrev pub StaleExactly : List Line → Tables → Values → Answer → Type 0
StaleExactly table t old = GivenExactly (before_last (before_last table)) 21 t.n (Stale t old)

-- ── each call ──
pub record ChoicesExactly : Type 0 where
  pub build : (l : BuildLent) (o : BuildOutcome l) → UndeterminedExactly (build_lines l) l.tables (start_values l) (left_built o).answer
  pub trial : (s : Session) (w : Model) (c : TrialLent) (o : TrialOutcome s w c) → let old = stored_values w in
      UndeterminedExactly (trial_lines s w c) w.tables (moved (pairs_of_move c.move) old) (left_tried o).answer × StaleExactly (trial_lines s w c) w.tables old (left_tried o).answer
  pub keep : (s : Session) (g : Log) (w : Model) (c : KeepLent) (o : KeepOutcome s g w c) → let old = stored_values w in
      UndeterminedExactly (keep_lines s g w c) w.tables (moved (pairs_of_move c.move) old) (left_kept o).answer × StaleExactly (keep_lines s g w c) w.tables old (left_kept o).answer
  pub take_back : (s : Session) (g : Log) (w : Model) (c : TakeLent) (o : TakeOutcome s g w c) → let old = stored_values w in
      UndeterminedExactly (take_lines s g w c) w.tables (moved (pairs_of_move (latest g c).move) old) (left_taken o).answer
      × StaleExactly (take_lines s g w c) w.tables old (left_taken o).answer
