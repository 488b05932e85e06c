-- Whether a chain closes, told row by row: a variable with such a candidate is what some row makes (`Closing`). Assumes nothing.
use Prim.Native.Nat.{ℕ, ◌<◌}
use mathlib.Core.Bool.{Bool, true, false, not, ◌&&◌, ◌||◌}
use mathlib.Core.List.{List}
use mathlib.Core.Path.{◌≡◌, refl, ap, sym, ◌∙◌, subst}
use lib.Dec.{eqb, leb}
use borrow.Author.Tests.{ltb-true, not-true}
use native.Mathlib.Omega.{arith}
use lib.ListN.{length, get_or}
use Rattle.std.specs.Bool.{MatchBool}
use Rattle.std.specs.List.{AllWithin, HoldsAt, range_with_len}
use Rattle.std.proofs.lemmas.List.FromFn.{length-range_with_len, get_or-range_with_len}
use Rattle.paper.specs.Lists.{any, nat, all_below}
use Rattle.paper.specs.Tables.{Tables, row_of, is_made}
use Rattle.paper.specs.Chains.{closes}
use Rattle.paper.proofs.Least.{all_below-at}
use Rattle.order.specs.Formed.{Formed}
use Rattle.chains.specs.Links.{Grouped}
use Rattle.chains.specs.Level.{level_candidate}
use Rattle.chains.proofs.Candidates.{candidates-unmade, candidates-none}
use Rattle.chains.proofs.Closing.{none-closes, some-closes}

module _ (t : Tables) (F : Formed t) (numbers : List ℕ) where
  -- a row of another kind has none
  pub row-level : (r : ℕ) → r < t.m → eqb (nat t.kinds r) 4 ≡ false → level_candidate t numbers (nat t.makes r) ≡ false
  row-level r l e = ap (any (λ i. leb (nat numbers (nat t.makes r)) (nat numbers i))) (candidates-none t F r l e)

  module _ (G : Grouped t numbers) where
    pub rows-open : ((r : ℕ) → r < t.m → level_candidate t numbers (nat t.makes r) ≡ false) → false ≡ closes t
    rows-open h = none-closes t F numbers G (λ v l. at v (is_made t v) refl)
      where
        at : (v : ℕ) (b : Bool) → is_made t v ≡ b → level_candidate t numbers v ≡ false
        at v true e = subst (λ u. level_candidate t numbers u ≡ false) (F.made_by v e) (h (row_of t v) (ltb-true (row_of t v) t.m e))
        at v false e = ap (any (λ i. leb (nat numbers v) (nat numbers i))) (candidates-unmade t v e)

    pub no-element : all_below (λ q. not (eqb (nat t.kinds q) 4)) t.m ≡ true → false ≡ closes t
    no-element h = rows-open (λ r l. row-level r l (not-true (eqb (nat t.kinds r) 4) (all_below-at (λ q. not (eqb (nat t.kinds q) 4)) t.m h r l)))

    pub row_closes : (r : ℕ) → r < t.m → level_candidate t numbers (nat t.makes r) ≡ true → true ≡ closes t
    row_closes r l e = some-closes t F numbers G (nat t.makes r) (F.row_makes r l) e

    -- as a search over the rows tells it
    row-at : (r : ℕ) → r < t.m → get_or (range_with_len 0 t.m) r 0 ≡ r
    row-at r l = get_or-range_with_len 0 t.m r 0 l ∙ omega arith

    pub rows-told : (b : Bool)
        → MatchBool b ((k : ℕ) × (k < length (range_with_len 0 t.m)) × HoldsAt (λ r. level_candidate t numbers (nat t.makes r) ≡ true) (range_with_len 0 t.m) k)
        (AllWithin (λ r. level_candidate t numbers (nat t.makes r) ≡ false) (range_with_len 0 t.m) 0 (length (range_with_len 0 t.m)))
        → b ≡ closes t
    rows-told true h =
        let e = length-range_with_len 0 t.m in let inside = h.1 in let l : h.0 < t.m = omega arith in
        row_closes h.0 l (ap (λ r. level_candidate t numbers (nat t.makes r)) (sym (row-at h.0 l)) ∙ h.2 0)
    rows-told false h =
        let e = length-range_with_len 0 t.m in
        rows-open (λ r l. ap (λ r. level_candidate t numbers (nat t.makes r)) (sym (row-at r l)) ∙ h r 0 (omega arith) (omega arith))

-- joined tests, negated
pub not-or : (a b : Bool) → not (a || b) ≡ not a && not b
not-or true b = refl
not-or false b = refl

pub not-not : (a : Bool) → not (not a) ≡ a
not-not true = refl
not-not false = refl
