-- The reasons of the variables that a call has evaluated, over the tables. Assumes nothing.
use Rattle.std.specs.Prelude.{ℕ, cond, List, map, eqb}
use Rattle.integers.specs.Integers.{eq_z}
use Rattle.paper.specs.Lists.{nat}
use Rattle.paper.specs.Formula.{blank}
use Rattle.paper.specs.Net.{Values}
use Rattle.paper.specs.Tables.{Tables, row_of, is_made, inputs_of}
use Rattle.paper.specs.Reason.{why}

-- the reason of the value that v has among the values f; 0 for a search variable
abbrev pub shown : Tables → Values → ℕ → ℕ
shown t f v = cond (is_made t v) (cond (eq_z (f v) blank) (why (nat t.kinds (row_of t v)) (map f (inputs_of t v))) 0) 0

-- of a variable whose flag is 1, and else the stored one
abbrev pub current : Tables → List ℕ → Values → (ℕ → ℕ) → ℕ → ℕ
current t flags f stored v = cond (eqb (nat flags v) 1) (shown t f v) (stored v)

-- as it is stored: 0 for a search variable
abbrev pub noted_reason : Tables → List ℕ → Values → (ℕ → ℕ) → ℕ → ℕ
noted_reason t flags f stored v = cond (is_made t v) (current t flags f stored v) 0
