-- The inputs of a row: the part of the entries that it names, and the values there. Assumes nothing.
use Rattle.std.specs.Prelude.{ℕ, ◌<◌, cond, List, map, ℤ, pos, length, get_or, take, drop}
use Rattle.paper.specs.Lists.{nat}
use Rattle.paper.specs.Formula.{blank, some_blank}

-- the part of an entry list that a row names
abbrev pub part_of : {A : Type 0} → ℕ → ℕ → List A → List A
part_of first count l = take count (drop first l)

-- the values of the variables in a row's places
abbrev pub inputs : List ℕ → List ℤ → List ℤ
inputs vars values = map (λ v. get_or values v (pos 0)) vars

-- a formula over inputs any blank of which gives blank
abbrev pub unless_blank : (List ℤ → ℤ) → List ℤ → ℤ
unless_blank f xs = cond (some_blank xs) blank (f xs)

-- each of the variables has a value
pub record Within (vars : List ℕ) (values : List ℤ) : Type 0 where
  pub each : (i : ℕ) → i < length vars → nat vars i < length values
