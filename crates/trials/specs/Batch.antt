-- The moves of a batch as they are lent. Assumes nothing.
use Rattle.std.specs.Prelude.{ℕ, List, [], ◌∷◌, ℤ, take, drop}
use Rattle.paper.specs.Checks.{Move}
use Rattle.trials.specs.declared.batch.Batch as code-batch

-- how many there are, the number of pairs of each, and all pairs one move after another
pub record Batch : Type 0 where
  pub moves : ℕ
  pub pairs : List ℕ
  pub vars : List ℕ
  pub values : List ℤ

abbrev pub batch_of : ℕ → List ℕ → List ℕ → List ℤ → Batch
batch_of moves pairs vars values = record { moves = moves; pairs = pairs; vars = vars; values = values }

abbrev pub batch_lent : code-batch.Batch → Batch
batch_lent b = batch_of b.moves b.pairs.now b.vars.now b.values.now

-- the pairs of each move are behind those of the moves before it; of pairs that are not lent it has none
abbrev pub unpacked : List ℕ → List ℕ → List ℤ → List Move
unpacked [] vars values = []
unpacked (k ∷ ks) vars values = record { pairs = k; vars = take k vars; values = take k values } ∷ unpacked ks (drop k vars) (drop k values)

abbrev pub moves_of : Batch → List Move
moves_of b = unpacked (take b.moves b.pairs) b.vars b.values
