-- Why a window has no result: what is left of the definition for DEPARTURES and LAST. Assumes nothing.
use Rattle.std.specs.Prelude.{ℕ, Bool, cond, ◌&&◌, List, eqb, ℤ, pos}
use Rattle.std.specs.Int.Signed.{le_z}
use Rattle.paper.specs.Formula.{some_blank, trips, input_at}

-- of LAST if the test holds, else of DEPARTURES
abbrev pub window_why : Bool → List ℤ → ℕ
window_why last xs =
    cond (some_blank xs) 4 (cond (le_z (input_at xs 2) (pos 0)) 3 (cond (last && eqb (trips (input_at xs 0) (input_at xs 1) (input_at xs 2)) 0) 5 1))
