-- A variable that an earlier place of a list names too. Assumes nothing.
use Rattle.std.specs.Prelude.{ℕ, Bool, false, cond, List, [], eqb, ltb, length, get_or, take}
use Rattle.paper.specs.Lists.{any, nat}
use Rattle.paper.specs.Tables.{Tables, lent}

-- the row that check 5 reads, as tables: the others are left empty
abbrev pub makes_rows : List ℕ → Tables
makes_rows makes = lent 0 0 0 [] makes [] [] [] [] []

-- an earlier place names what place i names: its mark says so, if it has one
abbrev pub named_before : List Bool → List ℕ → ℕ → Bool
named_before seen vars i = let v = nat vars i in cond (ltb v (length seen)) (get_or seen v false) (any (eqb v) (take i vars))
