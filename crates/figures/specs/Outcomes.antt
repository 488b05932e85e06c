-- What comes of one move, over the trial of it by each route. Assumes nothing.
use Rattle.std.specs.Prelude.{ℕ, ◌≤◌, ◌<◌, [], ◌∷◌, pos, get_or, replicate}
use Rattle.integers.specs.Integers.{away}
use Rattle.paper.specs.Checks.{Move}
use Rattle.paper.specs.Calls.{Session, Model, TrialLeft, trial, number_of, evaluations_of}
use Rattle.paper.specs.Calls as calls
use Rattle.tables.specs.Lent.{lent_tables, lent_bounds, lent_index}
use Rattle.tables.specs.declared.lent.Model as code-model
use Rattle.figures.specs.declared.outcomes.Tried.{Tried}
use Rattle.figures.specs.declared.outcomes.Outcome.{Outcome}

-- the model that is lent, with zeros for its reasons, of which none is read
abbrev pub unreasoned : code-model.Model → Model
unreasoned w = record {
  tables = lent_tables w.tables;
  bounds = lent_bounds w.bounds;
  numbers = w.numbers.now;
  order = w.order.now;
  stored = w.stored.now;
  index = lent_index w.index;
  reasons = replicate 4096 0;
}

module _ (s : Session) (w : Model) (asked : ℕ) where
  -- as it is asked of the engine: one variable, a route, and rows of its own
  abbrev pub as_one_trial : ℕ → Move → calls.TrialLent
  as_one_trial route mv = record {
    move = mv;
    asked = 1;
    asked_vars = asked ∷ [];
    route = route;
    results = pos 0 ∷ [];
    trial = replicate 4096 (pos 0);
    flags = replicate 4096 0;
    why = 0 ∷ [];
  }

  -- what the engine then leaves, over a copy of the record
  abbrev pub left_by_try : ℕ → Move → TrialLeft
  left_by_try route mv = trial s w (as_one_trial route mv)

  -- its number, 0 if accepted, its evaluations, and the value of the asked variable
  unfoldable pub tried_once : ℕ → Move → Tried
  tried_once route mv = let x = left_by_try route mv in record { number = number_of x.answer; evaluations = evaluations_of x.answer; result = get_or x.results 0 (pos 0) }

  -- the number and the result by route 1, and the evaluations by each route
  abbrev pub outcome : Move → Outcome
  outcome mv = let x = tried_once 1 mv in record {
    number = x.number;
    result = x.result;
    first = x.evaluations;
    second = (tried_once 2 mv).evaluations;
    third = (tried_once 3 mv).evaluations;
  }

-- a number that the engine gives, a result of 32 bits, and evaluations of at most all variables
pub record SmallOutcome (o : Outcome) : Type 0 where
  pub number : o.number < 22
  pub result : away o.result ≤ 2147483648
  pub first : o.first ≤ 4096
  pub second : o.second ≤ 4096
  pub third : o.third ≤ 4096
