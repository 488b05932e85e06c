-- Which start values are kept. Assumes nothing.
use Rattle.std.specs.Prelude.{Bool, cond, not, ◌&&◌, ℤ, pos}
use Rattle.integers.specs.Integers.{eq_z}
use Rattle.paper.specs.Formula.{blank}

-- it is whole, and one that build takes: 0 at a made variable, and not blank at any other
abbrev pub start_test : Bool → Bool → ℤ → Bool
start_test whole made value = whole && cond made (eq_z value (pos 0)) (not (eq_z value blank))
