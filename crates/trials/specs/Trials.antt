-- Many moves tried on the same stored values, as one function from what the call is lent to what it leaves: each move is given what a trial gives it.
-- Assumes nothing.
use Rattle.std.specs.Prelude.{ℕ, ◌*◌, Bool, cond, List, [], ◌∷◌, ◌++◌, map, ◌≡◌, Result, leb, ℤ, pos, length, take, drop, replicate}
use Rattle.paper.specs.Lists.{every, total}
use Rattle.paper.specs.Checks.{Move}
use Rattle.paper.specs.Calls.{Session, Answer, Accepted, Refused, number_of, place_of, evaluations_of, Model, TrialLent, TrialLeft, trial}
use Rattle.tables.specs.declared.Refusal as code
use Rattle.verdicts.specs.declared.asked.Asked as code-asked
use Rattle.records.specs.Left.{answer_in}
use Rattle.trials.specs.Batch.{Batch, moves_of}

-- what is asked of every move: the values of which variables, and by which route
pub record Question : Type 0 where
  pub asked : ℕ
  pub vars : List ℕ
  pub route : ℕ

abbrev pub question : ℕ → List ℕ → ℕ → Question
question asked vars route = record { asked = asked; vars = vars; route = route }

abbrev pub question_of : code-asked.Asked → Question
question_of q = question q.count q.vars.now q.route

-- the rows to fill: a number, a place and evaluations of every move, and `asked` results and reasons of every move
pub record Rows : Type 0 where
  pub numbers : List ℕ
  pub places : List ℕ
  pub evaluations : List ℕ
  pub results : List ℤ
  pub why : List ℕ

abbrev pub rows_in : List ℕ → List ℕ → List ℕ → List ℤ → List ℕ → Rows
rows_in numbers places evaluations results why = record { numbers = numbers; places = places; evaluations = evaluations; results = results; why = why }

-- ── one move ──
-- as it is asked of the engine, with rows of the call's own for values and flags
abbrev pub as_trial : Question → Move → List ℤ → List ℕ → TrialLent
as_trial q mv results why = record {
  move = mv;
  asked = q.asked;
  asked_vars = q.vars;
  route = q.route;
  results = results;
  trial = replicate 4096 (pos 0);
  flags = replicate 4096 0;
  why = why;
}

module _ (s : Session) (w : Model) (q : Question) where
  abbrev pub try_one : Move → List ℤ → List ℕ → TrialLeft
  try_one mv results why = trial s w (as_trial q mv results why)

  -- the answer, the results and the reasons that a move is given are those
  pub record Given (mv : Move) (results : List ℤ) (why : List ℕ) (r : Result ℕ code.Refusal) (results' : List ℤ) (why' : List ℕ) : Type 0 where
    pub answer : answer_in r ≡ (try_one mv results why).answer
    pub results-are : results' ≡ (try_one mv results why).results
    pub why-is : why' ≡ (try_one mv results why).why

  -- and where its places in both rows begin at `at`: those, and nothing besides
  pub record GivenAt (mv : Move) (at : ℕ) (results : List ℤ) (why : List ℕ) (r : Result ℕ code.Refusal) (results' : List ℤ) (why' : List ℕ) : Type 0 where
    pub answer : answer_in r ≡ (try_one mv (take q.asked (drop at results)) (take q.asked (drop at why))).answer
    pub results-are : results' ≡ take at results ++ ((try_one mv (take q.asked (drop at results)) (take q.asked (drop at why))).results ++ drop q.asked (drop at results))
    pub why-is : why' ≡ take at why ++ ((try_one mv (take q.asked (drop at results)) (take q.asked (drop at why))).why ++ drop q.asked (drop at why))

  -- ── all moves, each with the places of both rows behind those of the moves before it ──
  abbrev pub tries : List Move → List ℤ → List ℕ → List TrialLeft
  tries [] results why = []
  tries (mv ∷ mvs) results why = try_one mv (take q.asked results) (take q.asked why) ∷ tries mvs (drop q.asked results) (drop q.asked why)

-- lists one behind the other
abbrev pub joined : {A : Type 0} → List (List A) → List A
joined [] = []
joined (l ∷ ls) = l ++ joined ls

-- what each move is given, read from what its trial leaves
abbrev pub number_given : TrialLeft → ℕ
number_given x = number_of x.answer

abbrev pub place_given : TrialLeft → ℕ
place_given x = place_of x.answer

abbrev pub evaluations_given : TrialLeft → ℕ
evaluations_given x = evaluations_of x.answer

abbrev pub results_given : TrialLeft → List ℤ
results_given x = x.results

abbrev pub why_given : TrialLeft → List ℕ
why_given x = x.why

-- ── the call ──
-- at most 1,000 moves, a number of pairs for each, at most 32 variables asked, and room for all
abbrev pub trials_fit : Batch → Question → Rows → Bool
trials_fit b q rows = let n = b.moves in
    every (
    leb n 1000 ∷ leb n (length b.pairs) ∷ leb q.asked 32 ∷ leb q.asked (length q.vars) ∷ leb n (length rows.numbers) ∷ leb n (length rows.places)
    ∷ leb n (length rows.evaluations) ∷ leb (n * q.asked) (length rows.results) ∷ leb (n * q.asked) (length rows.why) ∷ [])

-- the rows filled from the front
abbrev pub filled : ℕ → ℕ → List TrialLeft → Rows → Rows
filled moves asked xs rows = record {
  numbers = map number_given xs ++ drop moves rows.numbers;
  places = map place_given xs ++ drop moves rows.places;
  evaluations = map evaluations_given xs ++ drop moves rows.evaluations;
  results = joined (map results_given xs) ++ drop (moves * asked) rows.results;
  why = joined (map why_given xs) ++ drop (moves * asked) rows.why;
}

abbrev pub trials : Session → Model → Batch → Question → Rows → Answer × Rows
trials s w b q rows =
    let xs = tries s w q (moves_of b) rows.results rows.why in
    cond (trials_fit b q rows) (Accepted (total (map evaluations_given xs)), filled b.moves q.asked xs rows) (Refused 1 0, rows)
