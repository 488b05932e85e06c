-- Candidates that are numbered as high as what is made from them. Assumes nothing.
use Rattle.std.specs.Prelude.{ℕ, Bool, List, leb}
use Rattle.paper.specs.Lists.{any, nat}
use Rattle.paper.specs.Tables.{Tables}
use Rattle.paper.specs.Chains.{candidates}

-- v has a candidate whose number is not below its own
abbrev pub level_candidate : Tables → List ℕ → ℕ → Bool
level_candidate t numbers v = any (λ i. leb (nat numbers v) (nat numbers i)) (candidates t v)
