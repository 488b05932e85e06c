-- What the checks of moves are stated over. Assumes nothing.
use Rattle.std.specs.Prelude.{ℕ, Bool, ◌&&◌, List, ℤ, eqb, ltb}
use Rattle.paper.specs.Lists.{nat}
use Rattle.paper.specs.Tables.{Tables}
use Rattle.paper.specs.Checks.{Verdict, by_lines, Bounds, Move, has_value, pair_within, move_lines}

-- checks 10, 11, 12 and 17 of a move, and then what is next
abbrev pub pair_checks : Move → Bounds → Tables → Verdict → Verdict
pair_checks mv bs t = by_lines (move_lines mv t bs)

-- 10, 12 and 17 of pair i, told by the row of makers
abbrev pub pair_good : ℕ → List ℕ → Bounds → Move → ℕ → Bool
pair_good n by bs mv i = (ltb (nat mv.vars i) n && eqb (nat by (nat mv.vars i)) 0) && (has_value mv i && pair_within mv bs i)

-- the lent rows of a move
abbrev pub move_of : ℕ → List ℕ → List ℤ → Move
move_of pairs vars values = record { pairs = pairs; vars = vars; values = values }
