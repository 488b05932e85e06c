-- A number that bytes say, if a value can be it: what the functions that read digits answer. Assumes nothing.
use Rattle.std.specs.Prelude.{ℕ, Bool, cond, ◌&&◌, leb, ℤ, pos, Option, None, Some}
use Rattle.paper.specs.Formula.{blank}

-- a number that a value can be, or none
abbrev pub said : Bool → ℕ → Option ℕ
said good n = cond (good && leb n 2147483647) (Some n) None

-- as a value, or blank for none
abbrev pub value_said : Option ℕ → ℤ
value_said None = blank
value_said (Some n) = pos n
