-- The reasons of variables of which none whose flag is 1 is blank. Assumes nothing.
use Rattle.std.specs.Prelude.{ℕ, Bool, cond, not, ◌&&◌, ◌||◌, List, eqb, ℤ, pos, get_or}
use Rattle.integers.specs.Integers.{eq_z}
use Rattle.paper.specs.Lists.{nat}
use Rattle.paper.specs.Formula.{blank}

-- a variable whose flag is 1 is not blank; its reason then, and the stored one of any other
abbrev pub not_blank : List ℕ → List ℤ → ℕ → Bool
not_blank flags values v = not (eqb (nat flags v) 1 && eq_z (get_or values v (pos 0)) blank)

abbrev pub plain_now : List ℕ → (ℕ → ℕ) → ℕ → ℕ
plain_now flags stored v = cond (eqb (nat flags v) 1) 0 (stored v)

-- as it is stored then: 0 where there is no maker too
abbrev pub plain_noted : List ℕ → List ℕ → (ℕ → ℕ) → ℕ → ℕ
plain_noted by flags stored v = cond (eqb (nat by v) 0 || eqb (nat flags v) 1) 0 (stored v)
