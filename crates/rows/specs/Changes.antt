-- What a row of values holds. Assumes nothing.
use Rattle.std.specs.Prelude.{List, ℤ, pos, get_or}
use Rattle.paper.specs.Net.{Values}

-- the values that a row holds
abbrev pub values_of : List ℤ → Values
values_of l v = get_or l v (pos 0)
