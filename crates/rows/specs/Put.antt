-- A move put into a row of values. Assumes nothing.
use Rattle.std.specs.Prelude.{ℕ, ◌≤◌, ◌<◌, List, [], ◌∷◌, ℤ, length, set}
use Rattle.paper.specs.Lists.{nat}
use Rattle.paper.specs.Checks.{Move}

-- the pairs are all lent, and name places below n
pub record PairsFit (n : ℕ) (mv : Move) : Type 0 where
  pub in-vars : mv.pairs ≤ length mv.vars
  pub in-values : mv.pairs ≤ length mv.values
  pub low : (i : ℕ) → i < mv.pairs → nat mv.vars i < n

-- a row with the pairs put in: the first pair that names a variable decides
abbrev pub put_in : List (ℕ × ℤ) → List ℤ → List ℤ
put_in [] row = row
put_in (p ∷ ps) row = set (put_in ps row) p.0 p.1

-- rows as long as the variables, and a move of these: what a route is begun with
pub record Startable (n : ℕ) (stored : List ℤ) (mv : Move) (trial : List ℤ) (flags : List ℕ) : Type 0 where
  pub in-stored : n ≤ length stored
  pub in-trial : n ≤ length trial
  pub in-flags : n ≤ length flags
  pub pairs : PairsFit n mv
