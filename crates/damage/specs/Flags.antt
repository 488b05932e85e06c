-- What a flag chooses. Assumes nothing.
use Rattle.std.specs.Prelude.{ℕ, Bool, false, cond, not, List, get_or}
use Rattle.paper.specs.Lists.{those}

-- the flag is the one wanted
abbrev pub flag_wanted : Bool → Bool → Bool
flag_wanted wanted flag = cond wanted flag (not flag)

-- those below n whose flag is
abbrev pub flagged : Bool → List Bool → ℕ → List ℕ
flagged wanted flags = those (λ i. flag_wanted wanted (get_or flags i false))
