-- Moves kept one after the other, and the values worked out afresh with them; two moves with no variable in common, and one move of all the pairs of both.
-- Assumes nothing.
use Rattle.std.specs.Prelude.{ℕ, ◌+◌, ◌≤◌, ◌<◌, ◌⊎◌, List, [], ◌∷◌, ◌++◌, ◌≡◌, ℤ, pos, length, get_or, take}
use Rattle.paper.specs.Lists.{nat}
use Rattle.paper.specs.Net.{Values, moved}
use Rattle.paper.specs.Checks.{Move}

-- ── moves kept and not taken back, the latest first ──
abbrev pub Moves : Type 0
Moves = List (List (ℕ × ℤ))

-- without the latest
abbrev pub rest : Moves → Moves
rest [] = []
rest (mv ∷ earlier) = earlier

-- start values with the moves applied, from the last of the list to its head
abbrev pub applied : Values → Moves → Values
applied s [] = s
applied s (mv ∷ earlier) = moved mv (applied s earlier)

-- ── two moves ──

-- the pair at a place of a move
abbrev pub pair_at : Move → ℕ → ℕ × ℤ
pair_at mv i = (nat mv.vars i, get_or mv.values i (pos 0))

-- the move has the pair, at some place
pub record Has (mv : Move) (pair : ℕ × ℤ) : Type 0 where
  pub place : ℕ
  pub low : place < mv.pairs
  pub is : pair_at mv place ≡ pair

-- two moves with no variable in common
pub record Apart (a b : Move) : Type 0 where
  pub differ : (i k : ℕ) → i < a.pairs → k < b.pairs → nat a.vars i ≡ nat b.vars k → ⊥

-- one move of all the pairs of two, in any order: each pair of either, no other, each at one place; at most 64, in lent rows that hold them
pub record AllPairs (a b one : Move) : Type 0 where
  pub of-first : (i : ℕ) → i < a.pairs → Has one (pair_at a i)
  pub of-second : (i : ℕ) → i < b.pairs → Has one (pair_at b i)
  pub no_other : (i : ℕ) → i < one.pairs → Has a (pair_at one i) ⊎ Has b (pair_at one i)
  pub once : (i k : ℕ) → i < k → k < one.pairs → pair_at one i ≡ pair_at one k → ⊥
  pub few : one.pairs ≤ 64
  pub vars-long : one.pairs ≤ length one.vars
  pub values-long : one.pairs ≤ length one.values

-- such a move: the pairs of the first and then those of the second
abbrev pub both_moves : Move → Move → Move
both_moves a b = record {
  pairs = a.pairs + b.pairs;
  vars = take a.pairs a.vars ++ take b.pairs b.vars;
  values = take a.pairs a.values ++ take b.pairs b.values;
}
