-- The runs that the paper marks (p), and those of MIN and MAX over blank inputs and of chains that ELEMENT closes, as one table with one test: each is a build of
-- the tables, or a trial over what build left, by the calls themselves. Assumes nothing.
use Rattle.std.specs.Prelude.{ℕ, suc, Bool, true, false, ◌&&◌, List, [], ◌∷◌, map, ◌++◌, ℤ, pos, negsuc, eqb, length, replicate}
use Rattle.integers.specs.Integers.{eq_z}
use Rattle.paper.specs.Lists.{all}
use Rattle.paper.specs.Formula.{blank}
use Rattle.paper.specs.Tables.{Tables, lent}
use Rattle.paper.specs.Checks.{Bounds, bounds_in, lowest, highest, Move}
use Rattle.paper.specs.Calls.{Answer, Accepted, Refused, BuildLent, build, Model, trial}

-- a run: the tables and start values, and what is to come of it
pub data PaperRun : Type 0 where
  -- build: topological numbers and values
  builds : Tables → List ℤ → List ℕ → List ℤ → PaperRun
  -- build refuses with this number and place
  refuses : Tables → ℕ → ℕ → PaperRun
  -- a trial over what build left: the move, the asked list and the route; the asked values and the count
  tries : Tables → List ℤ → List (ℕ × ℤ) → List ℕ → ℕ → List ℤ → ℕ → PaperRun

-- ── the test ──
-- the same entries, by a test of two
abbrev pub same : {A : Type 0} → (A → A → Bool) → List A → List A → Bool
same eq [] [] = true
same eq [] (y ∷ ys) = false
same eq (x ∷ xs) [] = false
same eq (x ∷ xs) (y ∷ ys) = eq x y && same eq xs ys

abbrev pub zeros : ℕ → List ℕ
zeros k = replicate k 0

abbrev pub zeros_z : ℕ → List ℤ
zeros_z k = replicate k (pos 0)

-- every number of the value range is allowed
abbrev pub full : ℕ → Bounds
full n = bounds_in (replicate n lowest) (replicate n highest)

-- start values are followed by zeros, and the record has seen other calls
abbrev pub building : Tables → List ℤ → BuildLent
building t s = record {
  session = record { kept = 7; evaluations = 7; blanks = 7 };
  tables = t;
  bounds = full t.n;
  starts = s ++ zeros_z t.n;
  numbers = zeros t.n;
  order = zeros t.m;
  stored = zeros_z t.n;
  index = record { starts = zeros (suc t.n); places = zeros t.e };
  reasons = zeros t.n;
  log_sizes = zeros 65;
}

-- the same answer
abbrev pub answers : Answer → Answer → Bool
answers (Accepted a) (Accepted b) = eqb a b
answers (Accepted a) (Refused number place) = false
answers (Refused k p) (Accepted b) = false
answers (Refused k p) (Refused number place) = eqb k number && eqb p place

unfoldable pub comes_out : PaperRun → Bool
comes_out (builds t s nums vals) =
    let left = build (building t s) in
    answers left.answer (Accepted t.m) && same eqb left.numbers nums && same eq_z left.stored vals
    && eqb left.session.kept 0 && eqb left.session.evaluations t.m
comes_out (refuses t number place) = answers (build (building t [])).answer (Refused number place)
comes_out (tries t s mv asked route vals count) =
    let built = build (building t s) in
    let own : Model = record { tables = t; bounds = full t.n; numbers = built.numbers; order = built.order; stored = built.stored; index = built.index; reasons = built.reasons } in
    let move : Move = record { pairs = length mv; vars = map (λ p. p.0) mv; values = map (λ p. p.1) mv } in
    let left = trial built.session own (record {
      move = move;
      asked = length asked;
      asked_vars = asked;
      route = route;
      results = zeros_z (length asked);
      trial = zeros_z t.n;
      flags = zeros t.n;
      why = zeros (length asked);
    }) in
    answers left.answer (Accepted count) && same eq_z left.results vals && eqb left.session.kept 0 && eqb left.session.evaluations count

-- ── models ──
abbrev pub ones : ℕ → List ℤ
ones k = replicate k (pos 1)

-- model A
abbrev pub model_a : Tables
model_a =
    lent 6 3 7 (8 ∷ 9 ∷ 1 ∷ []) (3 ∷ 4 ∷ 5 ∷ []) (pos 0 ∷ pos 0 ∷ pos 2 ∷ []) (0 ∷ 3 ∷ 6 ∷ []) (3 ∷ 3 ∷ 1 ∷ [])
    (0 ∷ 1 ∷ 2 ∷ 0 ∷ 1 ∷ 2 ∷ 3 ∷ []) (ones 6 ++ (pos 4 ∷ []))

abbrev pub start_a : List ℤ
start_a = pos 25200 ∷ pos 28800 ∷ pos 600 ∷ []

-- one row over the variables before the last, which it makes
abbrev pub one_row : ℕ → ℤ → List ℕ → List ℤ → Tables
one_row kind param vars coefs =
    lent (suc (length vars)) 1 (length vars) (kind ∷ []) (length vars ∷ []) (param ∷ []) (0 ∷ []) (length vars ∷ []) vars coefs

-- rows of one input each: 0 made from a, 1 made from b
abbrev pub two : ℕ → ℕ → Tables
two a b = lent 2 2 2 (3 ∷ 3 ∷ []) (0 ∷ 1 ∷ []) (zeros_z 2) (0 ∷ 1 ∷ []) (1 ∷ 1 ∷ []) (a ∷ b ∷ []) (ones 2)

-- 0 made from itself
abbrev pub itself : Tables
itself = lent 1 1 1 (3 ∷ []) (0 ∷ []) (zeros_z 1) (0 ∷ []) (1 ∷ []) (0 ∷ []) (ones 1)

-- variable 3 is 1 more than variable 2, and so blank at the top of the range; 4 is ELEMENT of index 0, candidates 1 and 3
abbrev pub candidates_model : Tables
candidates_model = lent 5 2 4 (1 ∷ 4 ∷ []) (3 ∷ 4 ∷ []) (pos 1 ∷ pos 0 ∷ []) (0 ∷ 1 ∷ []) (1 ∷ 3 ∷ []) (2 ∷ 0 ∷ 1 ∷ 3 ∷ []) (ones 4)

-- variable 2 is ELEMENT of an index and two candidates, and 3 is made from 2: an input 3 closes a chain
abbrev pub closing : ℕ → ℕ → ℕ → Tables
closing index a b = lent 4 2 4 (4 ∷ 3 ∷ []) (2 ∷ 3 ∷ []) (zeros_z 2) (0 ∷ 3 ∷ []) (3 ∷ 1 ∷ []) (index ∷ a ∷ b ∷ 2 ∷ []) (ones 4)

-- two windows with the same start and headway, 2; 4 and 5 are LAST of each, 6 is MAX of the two, 7 is MIN of them, 8 is MAX of 5 twice
abbrev pub sunday : Tables
sunday =
    lent 9 5 12 (9 ∷ 9 ∷ 3 ∷ 2 ∷ 3 ∷ []) (4 ∷ 5 ∷ 6 ∷ 7 ∷ 8 ∷ []) (zeros_z 5) (0 ∷ 3 ∷ 6 ∷ 8 ∷ 10 ∷ []) (3 ∷ 3 ∷ 2 ∷ 2 ∷ 2 ∷ [])
    (0 ∷ 1 ∷ 2 ∷ 0 ∷ 3 ∷ 2 ∷ 4 ∷ 5 ∷ 5 ∷ 4 ∷ 5 ∷ 5 ∷ []) (ones 12)

-- the second is empty
abbrev pub start_sunday : List ℤ
start_sunday = pos 25200 ∷ pos 28800 ∷ pos 600 ∷ pos 25200 ∷ []

abbrev pub top : ℤ
top = pos 2147483647

abbrev pub bottom : ℤ
bottom = negsuc 2147483646

-- ── the table ──
-- a move of variable v to x in model A, with 3, 4 and 5 asked on route 1
abbrev pub sweeps : ℕ → ℤ → ℤ → ℤ → ℤ → ℕ → PaperRun
sweeps v x three four five count = tries model_a start_a ((v, x) ∷ []) (3 ∷ 4 ∷ 5 ∷ []) 1 (three ∷ four ∷ five ∷ []) count

-- a move of the end in model A, with one variable asked
abbrev pub asks : ℤ → ℕ → ℕ → ℤ → ℕ → PaperRun
asks end v route z count = tries model_a start_a ((1, end) ∷ []) (v ∷ []) route (z ∷ []) count

-- the empty move in model A, with 5 asked
abbrev pub stays : ℕ → ℕ → PaperRun
stays route count = tries model_a start_a [] (5 ∷ []) route (pos 26 ∷ []) count

-- a formula over given values
abbrev pub gives : ℕ → ℤ → List ℤ → List ℕ → List ℤ → ℤ → PaperRun
gives kind param coefs vars xs z = tries (one_row kind param vars coefs) xs [] (length vars ∷ []) 2 (z ∷ []) 1

-- over three values, or one, with coefficients 1
abbrev pub of_three_values : ℕ → ℤ → ℤ → ℤ → ℤ → PaperRun
of_three_values kind a b c z = gives kind (pos 0) (ones 3) (0 ∷ 1 ∷ 2 ∷ []) (a ∷ b ∷ c ∷ []) z

abbrev pub linear : ℤ → ℤ → ℤ → PaperRun
linear param coef z = gives 1 param (coef ∷ []) (0 ∷ []) (top ∷ []) z

-- ELEMENT with index i and the candidates 7 and blank
abbrev pub picks : ℤ → ℤ → ℕ → PaperRun
picks i z count = tries candidates_model (i ∷ pos 7 ∷ top ∷ []) [] (4 ∷ []) 2 (z ∷ []) count

-- candidate 1 moved to 9 where the other, which is not chosen, closes a chain; 3 asked
abbrev pub follows_choice : ℕ → PaperRun
follows_choice route = tries (closing 0 1 3) (pos 0 ∷ pos 7 ∷ []) ((1, pos 9) ∷ []) (3 ∷ []) route (pos 9 ∷ []) 2

-- a move of variable v to x on that Sunday
abbrev pub moves_sunday : ℕ → ℤ → List ℕ → ℕ → List ℤ → ℕ → PaperRun
moves_sunday v x asked route vals count = tries sunday start_sunday ((v, x) ∷ []) asked route vals count

unfoldable pub proved : List PaperRun
proved =
    builds model_a start_a (0 ∷ 0 ∷ 0 ∷ 1 ∷ 1 ∷ 2 ∷ []) (pos 25200 ∷ pos 28800 ∷ pos 600 ∷ pos 6 ∷ pos 28200 ∷ pos 26 ∷ [])
    -- end 28801
    ∷ sweeps 1 (pos 28801) (pos 7) (pos 28800) (pos 30) 3
    ∷ asks (pos 28801) 4 2 (pos 28800) 1
    ∷ asks (pos 28801) 4 3 (pos 28800) 1
    -- end 28500
    ∷ sweeps 1 (pos 28500) (pos 6) (pos 28200) (pos 26) 2
    ∷ asks (pos 28500) 5 3 (pos 26) 2
    -- headway 0, and end 25200
    ∷ sweeps 2 (pos 0) blank blank blank 3
    ∷ sweeps 1 (pos 25200) (pos 0) blank (pos 2) 3
    -- the empty move
    ∷ stays 1 0
    ∷ stays 2 2
    ∷ stays 3 0
    -- the widest window
    ∷ of_three_values 8 bottom top (pos 1) blank
    ∷ of_three_values 9 bottom top (pos 1) (pos 2147483646)
    ∷ of_three_values 8 bottom top (pos 2) top
    ∷ of_three_values 9 bottom top (pos 2) (pos 2147483645)
    -- LINEAR at both ends of the range, and a sum that leaves it and comes back
    ∷ linear (pos 0) (pos 1) top
    ∷ linear (pos 1) (pos 1) blank
    ∷ linear (pos 0) (negsuc 0) bottom
    ∷ linear (negsuc 0) (negsuc 0) blank
    ∷ gives 1 (pos 5) (pos 2 ∷ negsuc 1 ∷ []) (0 ∷ 1 ∷ []) (top ∷ top ∷ []) (pos 5)
    -- SHARED
    ∷ of_three_values 5 (pos 4) (pos 4) (pos 5) (pos 2)
    ∷ of_three_values 5 (pos 4) (pos 4) (pos 4) (pos 3)
    ∷ gives 5 (pos 0) (ones 1) (0 ∷ []) (pos 4 ∷ []) (pos 0)
    -- ELEMENT
    ∷ picks (pos 0) (pos 7) 1
    ∷ picks (pos 1) blank 2
    ∷ picks (pos 2) blank 1
    ∷ picks (negsuc 0) blank 1
    -- MIN and MAX skip the LAST of an empty window, and need it all the same
    ∷ builds sunday start_sunday (0 ∷ 0 ∷ 0 ∷ 0 ∷ 1 ∷ 1 ∷ 2 ∷ 2 ∷ 2 ∷ [])
    (pos 25200 ∷ pos 28800 ∷ pos 600 ∷ pos 25200 ∷ pos 28200 ∷ blank ∷ pos 28200 ∷ pos 28200 ∷ blank ∷ [])
    ∷ moves_sunday 1 (pos 28801) (6 ∷ []) 2 (pos 28800 ∷ []) 3
    ∷ moves_sunday 3 (pos 25201) (6 ∷ 7 ∷ 8 ∷ []) 1 (pos 28200 ∷ pos 25200 ∷ pos 25200 ∷ []) 4
    ∷ moves_sunday 3 (pos 25201) (7 ∷ []) 3 (pos 25200 ∷ []) 2
    -- with headway 0 all are blank
    ∷ moves_sunday 2 (pos 0) (6 ∷ 7 ∷ 8 ∷ []) 2 (blank ∷ blank ∷ blank ∷ []) 5
    -- circular
    ∷ refuses (two 1 0) 6 0
    ∷ refuses itself 6 0
    -- ELEMENT closes a chain through a candidate that is not chosen, through one that is, and through its index
    ∷ builds (closing 0 1 3) (pos 0 ∷ pos 7 ∷ []) (0 ∷ 0 ∷ 1 ∷ 1 ∷ []) (pos 0 ∷ pos 7 ∷ pos 7 ∷ pos 7 ∷ [])
    ∷ follows_choice 1
    ∷ follows_choice 2
    ∷ follows_choice 3
    ∷ refuses (closing 0 3 1) 20 2
    ∷ refuses (closing 3 0 1) 6 2
    ∷ []

-- every run comes out as the paper says
abbrev pub all_come_out : Bool
all_come_out = all comes_out proved
