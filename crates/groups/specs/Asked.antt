-- What links ask of the number that a group shares. The mark of a variable is above 4096 once its group is closed. Assumes nothing.
use Rattle.std.specs.Prelude.{ℕ, zero, suc, cond, List, map, leb}
use Rattle.paper.specs.Lists.{nat, greatest}

-- what a link to i asks of the number: one more than i's, if i's group is closed
abbrev pub asked : List ℕ → List ℕ → ℕ → ℕ
asked marks numbers i = cond (leb (nat marks i) 4096) zero (suc (nat numbers i))

-- what the links of v ask
abbrev pub asked_by : (ℕ → List ℕ) → List ℕ → List ℕ → ℕ → ℕ
asked_by dep marks numbers v = greatest (map (asked marks numbers) (dep v))
