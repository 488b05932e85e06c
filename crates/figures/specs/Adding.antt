-- What a move adds to the figures, and what leaves room for it. Assumes nothing.
use Rattle.std.specs.Prelude.{ℕ, ◌+◌, ◌<◌, cond, ◌&&◌, ℤ, pos, ◌+ℤ◌, eqb}
use Rattle.integers.specs.Integers.{eq_z, away}
use Rattle.paper.specs.Formula.{blank, lesser, greater}
use Rattle.figures.specs.declared.outcomes.Outcome.{Outcome}
use Rattle.figures.specs.Figures.{one_of}
use Rattle.figures.specs.declared.Totals.{Totals}

-- the result of an accepted move, blank for a refused one
abbrev pub result_given : ℕ → ℤ → ℤ
result_given number result = cond (eqb number 0) result blank

-- the figures of one move
abbrev pub single : Outcome → Totals
single o = let x = result_given o.number o.result in record {
  blank = cond (eqb o.number 0 && eq_z o.result blank) 1 0;
  least = x;
  greatest = x;
  sum = cond (eq_z x blank) (pos 0) x;
  first = o.first;
  second = o.second;
  third = o.third;
}

-- the figures of two lists of moves together
abbrev pub plus : Totals → Totals → Totals
plus a b = record {
  blank = a.blank + b.blank;
  least = one_of lesser a.least b.least;
  greatest = one_of greater a.greatest b.greatest;
  sum = a.sum +ℤ b.sum;
  first = a.first + b.first;
  second = a.second + b.second;
  third = a.third + b.third;
}

-- there is room for the figures of one more move
pub record RoomForOne (t : Totals) : Type 0 where
  pub blank : t.blank < 1000
  pub sum : away t.sum < 2147483648000
  pub first : t.first < 4096000
  pub second : t.second < 4096000
  pub third : t.third < 4096000
