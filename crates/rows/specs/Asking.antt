-- Which place a row asks next, and which variable waits to be worked out. Assumes nothing.
use Rattle.std.specs.Prelude.{ℕ, ◌+◌, Bool, false, not, cond, List, eqb, ltb, ℤ, pos, negsuc}
use Rattle.paper.specs.Lists.{nat}

-- there is work to do for v that is not done yet
abbrev pub waiting : List ℕ → List ℕ → ℕ → Bool
waiting work flags v = cond (eqb (nat work v) 0) false (not (eqb (nat flags v) 1))

-- of ELEMENT the chosen candidate after the index, if there is one
abbrev pub chosen_place : ℤ → ℕ → ℕ → ℕ
chosen_place (pos k) first last = cond (ltb (first + 1 + k) last) (first + 1 + k) last
chosen_place (negsuc k) first last = last

-- the place after place i, whose variable has the value x
unfoldable pub next_place : ℕ → ℤ → ℕ → ℕ → ℕ → ℕ
next_place kind x i first last = cond (eqb kind 4) (cond (eqb i first) (chosen_place x first last) last) (i + 1)
