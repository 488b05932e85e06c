-- What the programs print, as bytes: the refusal line and the list. Assumes nothing.
use Rattle.std.specs.Prelude.{ℕ, zero, suc, ◌/◌, min, Bool, cond, List, [], ◌∷◌, ◌++◌, ltb, ℤ, pos, nat_abs, length, get_or}
use Rattle.io.specs.Digits.{last_digits}
use Rattle.text.specs.Buffer.{sign}
use Rattle.integers.specs.Integers.{eq_z}
use Rattle.paper.specs.Lists.{nat, joined}
use Rattle.paper.specs.Formula.{blank}

-- how many decimal digits n has, if it has at most `most`
abbrev pub digit_count : ℕ → ℕ → ℕ
digit_count zero n = 0
digit_count (suc most) n = cond (ltb n 10) 1 (suc (digit_count most (n / 10)))

-- a number below 2 ^ 64 in decimal digits, the fewest that hold it
unfoldable pub decimal : ℕ → List ℕ
decimal n = last_digits 10 (digit_count 20 n) n

-- a value, or `-` if it is blank
abbrev pub value : ℤ → List ℕ
value z = cond (eq_z z blank) (45 ∷ []) (sign z ++ decimal (nat_abs z))

-- the same with a blank as `blank:` followed by its reason
abbrev pub value_or_reason : ℤ → ℕ → List ℕ
value_or_reason z reason = cond (eq_z z blank) ((98 ∷ 108 ∷ 97 ∷ 110 ∷ 107 ∷ 58 ∷ []) ++ decimal reason) (value z)

-- a line of the list: variable, topological number and value, with reasons or without, parted by single blanks
abbrev pub line : Bool → ℕ → ℕ → ℤ → ℕ → List ℕ
line reasons v number z reason = decimal v ++ (32 ∷ []) ++ decimal number ++ (32 ∷ []) ++ cond reasons (value_or_reason z reason) (value z) ++ (10 ∷ [])

-- the list: a line for each of the first n variables that has a number and a value, with the reasons of a row or without
unfoldable pub lines : Bool → ℕ → List ℕ → List ℤ → List ℕ → List ℕ
lines reasons n numbers values row = joined (λ v. line reasons v (nat numbers v) (get_or values v (pos 0)) (nat row v)) (min n (min (length numbers) (length values)))

-- `refused`, the number and the place, parted by single blanks
unfoldable pub refusal : ℕ → ℕ → List ℕ
refusal number place = (114 ∷ 101 ∷ 102 ∷ 117 ∷ 115 ∷ 101 ∷ 100 ∷ 32 ∷ []) ++ decimal number ++ (32 ∷ []) ++ decimal place ++ (10 ∷ [])
