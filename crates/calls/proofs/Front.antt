-- What a judge hands on of the makers is handed on as the front of its row. Assumes nothing.
use Prim.Native.Nat.{ℕ}
use native.Mathlib.Omega.{arith}
use mathlib.Core.List.{List}
use mathlib.Core.Path.{◌∙◌}
use lib.ListN.{take}
use lib.Seq.{get_or-take, length-take-le}
use Rattle.paper.specs.Tables.{Tables}
use Rattle.tables.specs.Makers.{Makers}

pub makers-front : (t : Tables) (by : List ℕ) → Makers t by → Makers t (take t.n by)
makers-front t by M = record { long = let e = length-take-le t.n by M.long in omega arith; at = λ v l. get_or-take t.n by v 0 l ∙ M.at v l }
