-- What the checks of values are stated over. Assumes nothing.
use Rattle.std.specs.Prelude.{ℕ, ◌≤◌, Bool, true, false, cond, not, ◌&&◌, ◌||◌, List, ◌≡◌, ℤ, pos, eqb, length, get_or}
use Rattle.std.specs.Int.Signed.{le_z}
use Rattle.integers.specs.Integers.{eq_z}
use Rattle.paper.specs.Formula.{blank}
use Rattle.paper.specs.Lists.{nat}
use Rattle.paper.specs.Tables.{Tables, values_in}
use Rattle.paper.specs.Checks.{Verdict, check, require, Bounds, low, high, bound_good, stored_allowed}
use Rattle.paper.specs.Calls.{blanks_among}
use Rattle.tables.specs.Makers.{Makers}
use Rattle.checks.specs.declared.allowed.Values.{Values}
use Rattle.checks.specs.declared.allowed.Values.TheVariants.{Start, Stored}

-- it holds for any tables of n variables whose makers stand in `by`: of the tables a check is lent that row alone
pub record OfMakers (n : ℕ) (by : List ℕ) (holds : Tables → Type 0) : Type 0 where
  pub of : (t : Tables) → t.n ≡ n → Makers t by → holds t

-- neither the row of makers nor one of the two bounds is shorter than n
pub record BoundsLong (n : ℕ) (by : List ℕ) (bs : Bounds) : Type 0 where
  pub makers : n ≤ length by
  pub lows : n ≤ length bs.lows
  pub highs : n ≤ length bs.highs

-- 4, of the bounds of variable v, told by the row of makers
abbrev pub bound_of : List ℕ → Bounds → ℕ → Bool
bound_of by bs v = bound_good (not (eqb (nat by v) 0)) (low bs v) (high bs v)

-- whether the values are those that a model starts with
abbrev pub starts : Values → Bool
starts Start = true
starts Stored = false

-- 7, of one variable: a search variable is not blank and within its bounds, and a made one is 0 where a model is built
abbrev pub value_good : Bool → Bool → ℤ → ℤ → ℤ → Bool
value_good building made low value high = cond made (not building || eq_z value (pos 0)) (not (eq_z value blank) && (le_z low value && le_z value high))

-- the same of variable v, told by the row of makers
abbrev pub value_of : Bool → List ℕ → Bounds → List ℤ → ℕ → Bool
value_of building by bs values v = value_good building (not (eqb (nat by v) 0)) (low bs v) (get_or values v (pos 0)) (high bs v)

-- checks 19 and 7 of stored values, and then what is next
abbrev pub stored_checks : ℕ → Bounds → List ℤ → Tables → Verdict → Verdict
stored_checks blanks bs stored t next = require 19 0 (eqb blanks (blanks_among t.n (values_in t stored))) (check 7 t.n (stored_allowed t bs (values_in t stored)) next)
