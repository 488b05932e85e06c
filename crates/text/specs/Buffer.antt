-- Text put into a lent buffer, as far as the buffer has room. Assumes nothing.
use Rattle.std.specs.Prelude.{ℕ, ◌+◌, ◌-◌, min, cond, List, [], ◌∷◌, ◌≡◌, ℤ, pos, length, take, drop}
use Rattle.std.proofs.lemmas.List.Edits.{sets}
use Rattle.std.specs.Int.Signed.{lt_z}

-- a text was put from place `at` on, and the next byte goes to place `next`: a full buffer takes no more
pub record Put (text before : List ℕ) (at : ℕ) (after : List ℕ) (next : ℕ) : Type 0 where
  pub row : after ≡ sets before at text
  pub place : next ≡ at + min (length text) (length before - at)

-- the first `count` bytes of a buffer are as much of a text as it has room for, and the others are as before
pub record Shows (text before after : List ℕ) (count : ℕ) : Type 0 where
  pub shown : take count after ≡ take (length before) text
  pub rest : drop count after ≡ drop count before

-- `-` in front of a number below 0
abbrev pub sign : ℤ → List ℕ
sign z = cond (lt_z z (pos 0)) (45 ∷ []) []
