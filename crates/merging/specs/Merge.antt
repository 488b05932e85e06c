-- The figures of two batches together. Assumes nothing.
use Rattle.std.specs.Prelude.{ℕ, ◌+◌, Bool, cond, ◌&&◌, List, Result, Ok, Err, leb, ℤ, pos, negsuc, length}
use Rattle.std.specs.Int.Signed.{le_z}
use Rattle.paper.specs.Lists.{nat, over, all_below}
use Rattle.figures.specs.Adding.{plus}
use Rattle.figures.specs.declared.Totals.{Totals}
use Rattle.tables.specs.Answers.{refusal}
use Rattle.tables.specs.declared.Refusal.{Refusal}

-- two counts that together fit 32 bits
abbrev pub counts_fit : ℕ → ℕ → Bool
counts_fit a b = leb (a + b) 4294967295

-- a sum of which two fit 64 bits
abbrev pub half_fits : ℤ → Bool
half_fits z = le_z (negsuc 4611686018427387902) z && le_z z (pos 4611686018427387903)

abbrev pub totals_fit : Totals → Totals → Bool
totals_fit a b =
    ((((counts_fit a.blank b.blank && half_fits a.sum) && half_fits b.sum) && counts_fit a.first b.first) && counts_fit a.second b.second) && counts_fit a.third b.third

abbrev pub tallies_fit : List ℕ → List ℕ → Bool
tallies_fit xs ys = all_below (λ k. counts_fit (nat xs k) (nat ys k)) 22

-- figures that fit, and 22 places for the tallies of each and of both
abbrev pub merge_fits : Totals → Totals → List ℕ → List ℕ → List ℕ → Bool
merge_fits a b xs ys row = (((totals_fit a b && leb 22 (length xs)) && leb 22 (length ys)) && leb 22 (length row)) && tallies_fit xs ys

-- ── the call ──
abbrev pub merge : Totals → Totals → List ℕ → List ℕ → List ℕ → Result Totals Refusal × List ℕ
merge a b xs ys row = cond (merge_fits a b xs ys row) (Ok (plus a b), over 22 (λ k. nat xs k + nat ys k) row) (Err (refusal 1 0), row)
