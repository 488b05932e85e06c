-- The marks of the places that hold a value, and what they say of those that come later. Assumes nothing.
use Rattle.std.specs.Prelude.{ℕ, ◌+◌, ◌<◌, ◌≤◌, Bool, cond, ◌||◌, List, ◌≡◌, leb, ℤ, pos, length, get_or, take, drop}
use Rattle.integers.specs.Integers.{eq_z}
use Rattle.paper.specs.Lists.{any, nat, tally}
use Rattle.paper.specs.Formula.{places, sharing}

-- the mark of a place: all 32 bits
abbrev pub all_bits : ℕ
all_bits = 4294967295

-- x is one of these four
abbrev pub among_four : ℤ → ℤ → ℤ → ℤ → ℤ → Bool
among_four a b c d x = eq_z x a || eq_z x b || eq_z x c || eq_z x d

-- the places from first to before end have been tested: one that passes is marked, and the other marks are as before
pub record PlacesMarked (p : ℤ → Bool) (xs : List ℤ) (first end : ℕ) (before after : List ℕ) : Type 0 where
  pub long : length after ≡ length before
  pub compared : (j : ℕ) → first ≤ j → j < end → nat after j ≡ cond (p (get_or xs j (pos 0))) all_bits (nat before j)
  pub rest : (j : ℕ) → end ≤ j → nat after j ≡ nat before j

-- the places before i had their turn: n of them share their value, and any other is marked if one of them holds its value
pub record TurnsTaken (xs : List ℤ) (marks : List ℕ) (i n : ℕ) : Type 0 where
  pub long : length marks ≡ 256
  pub counted : n + tally (λ x. leb 2 (places x xs)) (drop i xs) ≡ sharing xs
  pub at : (j : ℕ) → i ≤ j → j < length xs → nat marks j ≡ cond (any (λ x. eq_z (get_or xs j (pos 0)) x) (take i xs)) all_bits 0
