-- The chain of checks 2 to 5: the rows refuse, or they are passed and the bounds and check 5 decide, over the makers. Assumes nothing.
use Prim.Native.Nat.{ℕ}
use mathlib.Core.Bool.{Bool, true, false, not}
use mathlib.Core.List.{List}
use mathlib.Core.Path.{◌≡◌, refl, sym, ap, ◌∙◌}
use Rattle.std.specs.Prelude.{Result}
use Rattle.paper.specs.Lists.{first_fail}
use Rattle.paper.specs.Tables.{Tables, is_made}
use Rattle.paper.specs.Checks.{Verdict, accepted, Bounds, low, high, bound_good, bounds_good, row_lines, table_lines, by_lines}
use Rattle.paper.proofs.Scan.{first_fail-same}
use Rattle.paper.proofs.Verdicts.{and_then, lines_then}
use Rattle.tables.specs.Answers.{answer_of}
use Rattle.tables.specs.Makers.{Makers}
use Rattle.tables.specs.declared.Refusal.{Refusal}
use Rattle.tables.proofs.Judged.{from_bounds}
use Rattle.tables.proofs.Made.{maker-zero}
use Rattle.checks.specs.Allowed.{bound_of}
use Rattle.checks.specs.Judged.{TablesJudged}

module _ (t : Tables) (bs : Bounds) (by : List ℕ) where
  -- what comes of the rows and then of the rest
  rows-said : (v : Verdict) → by_lines (row_lines t) accepted ≡ v → by_lines (table_lines t bs) accepted ≡ and_then v (from_bounds t accepted bs)
  rows-said v e = lines_then (row_lines t) (from_bounds t accepted bs) ∙ ap (λ z. and_then z (from_bounds t accepted bs)) e

  module _ (k : Makers t by) where
    pub rows-passed : (r : Result Unit Refusal) → by_lines (row_lines t) accepted ≡ accepted → r ≡ answer_of tt (from_bounds t accepted bs) → TablesJudged t bs by r
    rows-passed r past e = record { verdict = e ∙ ap (answer_of tt) (sym (rows-said accepted past)); makers = λ z. k }

    -- the test of the bounds over the row of makers is the paper's over the tables
    pub bounds-least : first_fail (bound_of by bs) t.n ≡ first_fail (bounds_good t bs) t.n
    bounds-least = first_fail-same _ _ t.n (λ v l. ap (λ b. bound_good (not b) (low bs v) (high bs v)) (maker-zero t by k v l) ∙ go v (is_made t v))
      where
        go : (v : ℕ) (b : Bool) → bound_good (not (not b)) (low bs v) (high bs v) ≡ bound_good b (low bs v) (high bs v)
        go v true = refl
        go v false = refl
