-- Check 4 of all rows at once: where the parts lie one behind the other, all coefficients are small and those between the LINEAR parts are 1, every
-- row's coefficients suit its kind. Assumes nothing.
use Prim.Native.Nat.{ℕ, ◌+◌, ◌-◌, ◌≤◌, ◌<◌}
use native.Mathlib.Nat.{le_refl, not-suc-le-zero}
use native.Mathlib.Omega.{arith}
use mathlib.Core.Bool.{Bool, true, false, cond, not, ◌&&◌, ◌||◌, and-true}
use mathlib.Core.Path.{◌≡◌, refl, sym, ap, ap₂, subst, ◌∙◌}
use borrow.Author.Tests.{eq-eqb, ne_eqb}
use lib.Dec.{eqb, leb}
use lib.IntN.{pos, nat_abs}
use lib.ListN.{length, get_or, take, drop}
use Rattle.std.specs.Prelude.{None}
use Rattle.integers.specs.Integers.{eq_z}
use Rattle.integers.specs.Below.{if_below}
use Rattle.paper.specs.Lists.{total, nat, first_fail}
use Rattle.paper.specs.Tables.{Tables}
use Rattle.paper.specs.Checks.{number_good}
use Rattle.paper.proofs.Lists.{and_left, and_right}
use Rattle.paper.proofs.Least.{all_below-at, below_all, all_more}
use Rattle.paper.proofs.Scan.{scan-none, total-next}
use Rattle.tables.specs.Rows.{parts_good, all_small, all_one, coefs_good, param_good, coefs_suit, all_params_good}
use Rattle.tables.proofs.Whole.{all-part, all-within, shows}
use Rattle.tables.proofs.Placing.{part-begins, sum-within}
use Rattle.tables.proofs.Numbers.{coefs-known}

module _ (t : Tables) where
  abbrev suits : ℕ → Bool
  suits r = coefs_good (nat t.kinds r) (take (nat t.counts r) (drop (nat t.firsts r) t.coefs))

  abbrev span : ℕ → ℕ → Bool
  span from end = all_one (take (end - from) (drop from t.coefs))

  -- what the loop over the rows has come to: `from` is where the last LINEAR part ends, and if the coefficients from there on are 1 too, as far as
  -- the rows passed go, all these rows are good
  pub record Sifted (row : ℕ) (good : Bool) (from : ℕ) : Type 0 where
    pub low : row ≤ t.m
    pub past : from ≤ total (take row t.counts)
    pub so : good ≡ true → span from (total (take row t.counts)) ≡ true → (r : ℕ) → r < row → suits r ≡ true

  pub sifted-start : Sifted 0 true 0
  sifted-start = record { low = omega arith; past = omega arith; so = λ e s r l. absurd (not-suc-le-zero l) }

  module _ (long : t.m ≤ length t.counts) (h : (parts_good t.m (length t.coefs) t.firsts t.counts && all_small t.coefs) ≡ true)
      (row : ℕ) (good : Bool) (from : ℕ) (S : Sifted row good from) where
    parts : parts_good t.m (length t.coefs) t.firsts t.counts ≡ true
    parts = and_left (parts_good t.m (length t.coefs) t.firsts t.counts) (all_small t.coefs) h

    small : all_small t.coefs ≡ true
    small = and_right (parts_good t.m (length t.coefs) t.firsts t.counts) (all_small t.coefs) h

    begins : row < t.m → nat t.firsts row ≡ total (take row t.counts)
    begins = part-begins t.m (length t.coefs) t.firsts t.counts parts row

    ends : row < t.m → total (take (row + 1) t.counts) ≡ nat t.firsts row + nat t.counts row
    ends l = let at = begins l in omega (arith, total-next t.counts row (omega arith))

    fits : total (take row t.counts) ≤ length t.coefs
    fits = sum-within t.m (length t.coefs) t.firsts t.counts parts row S.low

    -- `from` is no place after the next part's first, nor after the last coefficient
    pub from-before : row < t.m → (from ≤ nat t.firsts row) × (nat t.firsts row ≤ length t.coefs)
    from-before l = let past = S.past in let at = begins l in let end = fits in (omega arith, omega arith)

    -- a LINEAR part is small; another one is 1 if the coefficients up to its end are
    sifted-next : row < t.m → (k g : Bool) (first from' : ℕ) → k ≡ eqb (nat t.kinds row) 1 → first ≡ nat t.firsts row → g ≡ (not k || span from first)
        → from' ≡ cond k (nat t.firsts row + nat t.counts row) from → Sifted (row + 1) (good && g) from'
    sifted-next l true g first from' p f q n = let at = begins l in let e = ends l in record {
      low = omega arith;
      past = omega arith;
      so = λ y s. all_more suits row (S.so (and_left good g y) (ap (span from) (sym (begins l) ∙ sym f) ∙ sym q ∙ and_right good g y)) own;
    }
      where
        own : suits row ≡ true
        own = rw (sym p) (all-part (λ c. leb (nat_abs c) 1000) (nat t.firsts row) (nat t.counts row) t.coefs small)
    sifted-next l false g first from' p f q n = let at = begins l in let e = ends l in let past = S.past in record {
      low = omega arith;
      past = omega arith;
      so = λ y s.
          let within : (i count : ℕ) → from ≤ i → i + count ≤ total (take (row + 1) t.counts) → all_one (take count (drop i t.coefs)) ≡ true =
          λ i count low high. all-within (λ c. eq_z c (pos 1)) t.coefs from' (total (take (row + 1) t.counts) - from') i count (omega arith) (omega arith) s in
          all_more suits row (S.so (and_left good g y) (within from (total (take row t.counts) - from) (omega arith) (omega arith)))
          (rw (sym p) (within (nat t.firsts row) (nat t.counts row) (omega arith) (omega arith)));
    }

    pub sifted-linear : row < t.m → nat t.kinds row ≡ 1 → (g : Bool) (first count good' from' : _) → good' ≡ (good && g) → from' ≡ first + count → first ≡ nat t.firsts row → count ≡ nat t.counts row
        → g ≡ span from first → Sifted (row + 1) good' from'
    sifted-linear l k g first count good' from' p q f c e =
        subst (λ b. Sifted (row + 1) b from') (sym p) (sifted-next l true g first from' (sym (eq-eqb (nat t.kinds row) 1 k)) f e (q ∙ ap₂ ◌+◌ f c))

    pub sifted-other : row < t.m → (nat t.kinds row ≡ 1 → ⊥) → (good' from' : _) → good' ≡ good → from' ≡ from → Sifted (row + 1) good' from'
    sifted-other l k good' from' p q =
        subst (λ b. Sifted (row + 1) b from') (and-true good ∙ sym p) (sifted-next l false true (nat t.firsts row) from' (sym (ne_eqb (nat t.kinds row) 1 k)) refl refl q)

    pub sifted-end : t.m ≤ row → (g : Bool) → g ≡ span from (length t.coefs) → ((good && g) && coefs_suit t) ≡ (good && g)
    sifted-end end g q = shows (good && g) (coefs_suit t) (λ y. below_all suits t.m (λ r l. S.so (and_left good g y) (rest y) r (omega arith)))
      where
        rest : (good && g) ≡ true → span from (total (take row t.counts)) ≡ true
        rest y =
            let past = S.past in let end = fits in
            all-within (λ c. eq_z c (pos 1)) t.coefs from (length t.coefs - from) from (total (take row t.counts) - from) (omega arith) (omega arith) (sym q ∙ and_right good g y)

  -- coefficients that are all 1 suit every kind
  pub ones-suit : all_one t.coefs ≡ true → coefs_suit t ≡ true
  ones-suit h = below_all suits t.m (λ r l. sym (coefs-known (nat t.kinds r) (nat t.firsts r) (nat t.counts r) t.coefs _ true true (sym h) refl refl))

  -- every row is good by its parameter and by its coefficients
  pub all-numbers : {a b : Bool} → a ≡ all_params_good t.m t.kinds t.params → (b && coefs_suit t) ≡ b → (a && b) ≡ true
      → None ≡ if_below t.m (first_fail (number_good t) t.m)
  all-numbers {a} {b} p q h = scan-none (number_good t) t.m t.m (record { low = le_refl t.m; good = row }) (le_refl t.m)
    where
      row : (r : ℕ) → r < t.m → number_good t r ≡ true
      row r l =
          ap₂ ◌&&◌ (all_below-at suits t.m (and_right b (coefs_suit t) (q ∙ and_right a b h)) r l)
          (all_below-at (λ i. param_good (nat t.kinds i) (get_or t.params i (pos 0))) t.m (sym p ∙ and_left a b h) r l)
