-- How a blank stands among the values in MIN and MAX. Assumes nothing.
use Rattle.std.specs.Prelude.{Bool, true, false, cond, ℤ, pos, ◌+ℤ◌, ◌-ℤ◌}
use Rattle.integers.specs.Integers.{eq_z}
use Rattle.paper.specs.Formula.{blank, fit}

-- the number that an input stands as: itself, which puts a blank below all values; else 1 less, which leaves room for a blank above them
abbrev pub stands_as : Bool → ℤ → ℤ
stands_as true x = x
stands_as false x = cond (eq_z x blank) (pos 2147483647) (x -ℤ pos 1)

-- the input that stands as a number
abbrev pub stands_for : Bool → ℤ → ℤ
stands_for true z = z
stands_for false z = fit (z +ℤ pos 1)
