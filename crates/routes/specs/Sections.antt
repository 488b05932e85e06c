-- The sections of an index of readers: the rows that read a variable stand among the places from its start to the next one's. Assumes nothing.
use Rattle.std.specs.Prelude.{ℕ, suc, List, map}
use Rattle.std.proofs.Math.Seq.{slice}
use Rattle.paper.specs.Lists.{nat}

-- the rows that read v
abbrev pub section : List ℕ → List ℕ → ℕ → List ℕ
section starts places v = slice (nat starts v) (nat starts (suc v)) places

-- the variables made from v
abbrev pub made_from : List ℕ → List ℕ → List ℕ → ℕ → List ℕ
made_from makes starts places v = map (nat makes) (section starts places v)
