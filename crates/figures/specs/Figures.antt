-- A batch of candidate moves in figures, as one function from what the call is lent to what it leaves, over the
-- outcome of each move (`Outcomes`). Assumes nothing.
use Rattle.std.specs.Prelude.{ℕ, Bool, cond, ◌&&◌, List, [], ◌∷◌, map, Result, Ok, Err, ℤ, pos, ◌+ℤ◌, eqb, leb, length}
use Rattle.integers.specs.Integers.{eq_z}
use Rattle.paper.specs.Lists.{total, tally, over}
use Rattle.paper.specs.Formula.{blank, lesser, greater}
use Rattle.paper.specs.Calls.{Session, Model}
use Rattle.tables.specs.Answers.{refusal}
use Rattle.tables.specs.declared.Refusal.{Refusal}
use Rattle.figures.specs.Outcomes.{outcome}
use Rattle.figures.specs.declared.outcomes.Outcome.{Outcome}
use Rattle.figures.specs.declared.Totals.{Totals}
pub use Rattle.trials.specs.Batch.{Batch, batch_of, moves_of}

abbrev pub outcomes : Session → Model → ℕ → Batch → List Outcome
outcomes s w asked b = map (outcome s w asked) (moves_of b)

-- ── the figures of a list of outcomes ──
-- how many have a number
abbrev pub having : ℕ → List Outcome → ℕ
having k = tally (λ (o : Outcome). eqb o.number k)

-- the results of the accepted moves
abbrev pub results : List Outcome → List ℤ
results [] = []
results (o ∷ os) = cond (eqb o.number 0) (o.result ∷ results os) (results os)

-- one of two results, by f; a blank one is left out
abbrev pub one_of : (ℤ → ℤ → ℤ) → ℤ → ℤ → ℤ
one_of f a b = cond (eq_z a blank) b (cond (eq_z b blank) a (f a b))

-- the least of those that have a value, with `lesser`, or the greatest, with `greater`; blank if none has
abbrev pub extreme_value : (ℤ → ℤ → ℤ) → List ℤ → ℤ
extreme_value f [] = blank
extreme_value f (x ∷ xs) = one_of f x (extreme_value f xs)

-- the sum of those that have a value
abbrev pub values_sum : List ℤ → ℤ
values_sum [] = pos 0
values_sum (x ∷ xs) = cond (eq_z x blank) (pos 0) x +ℤ values_sum xs

abbrev pub totals : List Outcome → Totals
totals os = record {
  blank = tally (λ x. eq_z x blank) (results os);
  least = extreme_value lesser (results os);
  greatest = extreme_value greater (results os);
  sum = values_sum (results os);
  first = total (map (λ (o : Outcome). o.first) os);
  second = total (map (λ (o : Outcome). o.second) os);
  third = total (map (λ (o : Outcome). o.third) os);
}

-- the moves accepted, and those refused by each of the numbers 1 to 21
abbrev pub tallies : List Outcome → List ℕ → List ℕ
tallies os = over 22 (λ k. having k os)

-- ── the call ──
-- at most 1,000 moves, a number of pairs for each, and 22 places for the tallies
abbrev pub fits : Batch → List ℕ → Bool
fits b by_number = (leb b.moves 1000 && leb b.moves (length b.pairs)) && leb 22 (length by_number)

abbrev pub figures : Session → Model → ℕ → Batch → List ℕ → Result Totals Refusal × List ℕ
figures s w asked b by_number =
    let os = outcomes s w asked b in
    cond (fits b by_number) (Ok (totals os), tallies os by_number) (Err (refusal 1 0), by_number)
