-- The chain of checks 2 to 5: past check 3 the parts lie within e; a caller may go on from the answer with any check that comes next, and where it
-- accepts the tables are sound. Assumes nothing.
use Prim.Native.Nat.{ℕ, pred, ◌<◌}
use native.Mathlib.Omega.{arith}
use mathlib.Core.Bool.{◌&&◌}
use mathlib.Core.Path.{◌≡◌, ap}
use lib.Dec.{eqb}
use lib.IntN.{pos}
use lib.ListN.{get_or, take}
use borrow.Author.Tests.{leb-true, ltb-true}
use Rattle.std.specs.Prelude.{None}
use Rattle.integers.specs.Below.{if_below}
use Rattle.integers.proofs.Below.{none-below}
use Rattle.paper.specs.Lists.{total, nat, first_fail}
use Rattle.paper.specs.Tables.{Tables, part}
use Rattle.paper.specs.Checks.{Verdict, accepted, check, require, kind_good, shape_good, number_good, Bounds, bounds_good, made_once, row_lines, by_lines}
use Rattle.paper.proofs.Lists.{each}
use Rattle.paper.proofs.Least.{first_fail-before}
use Rattle.paper.proofs.Scan.{first_fail-same}
use Rattle.paper.proofs.Verdicts.{check-rest, check-held}
use Rattle.tables.specs.Makers.{AllBelow}
use Rattle.tables.specs.Rows.{coefs_good, param_good}
use Rattle.tables.proofs.Whole.{part-front}

-- ── the chain from each check on ──
module _ (t : Tables) (next : Verdict) where
  -- of the rows
  abbrev pub from_four : Verdict
  from_four = check 4 t.m (number_good t) next

  abbrev pub from_total : Verdict
  from_total = require 3 (pred t.m) (eqb (total (take t.m t.counts)) t.e) from_four

  abbrev pub from_three : Verdict
  from_three = check 3 t.m (shape_good t) from_total

  -- and after them
  abbrev pub from_five : Verdict
  from_five = check 5 t.m (made_once t) next

  abbrev pub from_bounds : Bounds → Verdict
  from_bounds bs = check 4 t.n (bounds_good t bs) from_five

-- ── check 4 after check 3 ──
-- the parts lie within e, so the first e coefficients are as good as all
pub numbers-front : (t : Tables) → None ≡ if_below t.m (first_fail (shape_good t) t.m)
    → first_fail (number_good (record { n = t.n; m = t.m; e = t.e; kinds = t.kinds; makes = t.makes; params = t.params; firsts = t.firsts; counts = t.counts; vars = t.vars; coefs = take t.e t.coefs })) t.m ≡ first_fail (number_good t) t.m
numbers-front t q =
    first_fail-same _ _ t.m (λ r low. ap (λ own. coefs_good (kind r) own && param_good (kind r) (get_or t.params r (pos 0))) (same r low))
  where
    kind : ℕ → ℕ
    kind r = nat t.kinds r

    same : (r : ℕ) → r < t.m → part t r (take t.e t.coefs) ≡ part t r t.coefs
    same r low =
        let past = none-below _ _ q in
        let good = first_fail-before (shape_good t) t.m r (omega arith) in
        part-front (nat t.firsts r) (nat t.counts r) t.e t.coefs (leb-true _ _ (each _ good).1.1.1.1.0)

-- ── what a caller has of the tables ──

-- where `row_checks` accepts: each row makes a variable below n
pub rows-make : (t : Tables) → by_lines (row_lines t) accepted ≡ accepted → AllBelow t.m t.makes t.n
rows-make t e = record {
  at = λ r l. ltb-true (nat t.makes r) t.n (each _ (check-held 3 t.m (shape_good t) _ (check-rest 2 t.m (kind_good t) (from_three t accepted) e) r l)).0;
}
