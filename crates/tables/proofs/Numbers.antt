-- Check 4: a number within a bound by two tests, a parameter by tests of which none waits for another, and the coefficients of a part where all
-- coefficients are known to be good. Assumes nothing.
use Prim.Native.Nat.{ℕ, suc}
use mathlib.Core.Bool.{Bool, true, false, cond, ◌&&◌, ◌||◌, and-true, false≢true}
use mathlib.Core.List.{List}
use mathlib.Core.Path.{◌≡◌, refl, sym, ap, ap₂, ◌∙◌}
use lib.Dec.{eqb, leb, leb-suc-suc}
use lib.IntN.{ℤ, pos, negsuc, nat_abs}
use lib.ListN.{get_or, take, drop}
use lib.Signed.{le_z}
use Rattle.integers.specs.Integers.{eq_z}
use Rattle.integers.proofs.Order.{eq_z-yes}
use Rattle.paper.specs.Lists.{nat}
use Rattle.paper.specs.Tables.{Tables, part}
use Rattle.paper.specs.Checks.{number_good}
use Rattle.paper.proofs.Lists.{all_in, all_of}
use Rattle.tables.specs.Rows.{all_small, all_one, coefs_good, param_good}
use Rattle.tables.proofs.Whole.{all-part, known-or}

-- not below the bound's negative, and not above the bound
pub within : (z : ℤ) (b : ℕ) → (le_z (negsuc b) z && le_z z (pos (suc b))) ≡ leb (nat_abs z) (suc b)
within (pos n) b = refl
within (negsuc n) b = and-true (leb n b) ∙ sym (leb-suc-suc n b)

one-small : (l : List ℤ) → all_one l ≡ true → all_small l ≡ true
one-small l h = all_of (λ c. leb (nat_abs c) 1000) l (λ c m. rw (eq_z-yes c (pos 1) (all_in (λ x. eq_z x (pos 1)) l h m)))

-- if all are 1, or the kind is LINEAR and all are small, a part need not be looked at
pub coefs-known : (kind first count : ℕ) (l own : List ℤ) (ones linear : Bool) → ones ≡ all_one l → linear ≡ (ones || all_small l) → own ≡ take count (drop first l)
    → ((ones || (linear && eqb kind 1)) || coefs_good kind own) ≡ coefs_good kind (take count (drop first l))
coefs-known kind first count l own ones linear o s e =
    ap (λ x. (ones || (linear && eqb kind 1)) || coefs_good kind x) e ∙ known-or _ (coefs_good kind cut) (go ones linear o s (eqb kind 1))
  where
    cut : List ℤ
    cut = take count (drop first l)

    small : all_small l ≡ true → all_small cut ≡ true
    small h = all-part (λ c. leb (nat_abs c) 1000) first count l h

    go : (a b : Bool) → a ≡ all_one l → b ≡ (a || all_small l) → (k : Bool) → (a || (b && k)) ≡ true → cond k (all_small cut) (all_one cut) ≡ true
    go true b p q true h = small (one-small l (sym p))
    go true b p q false h = all-part (λ c. eq_z c (pos 1)) first count l (sym p)
    go false true p q true h = small (sym q)
    go false true p q false h = absurd (false≢true h)
    go false false p q k h = absurd (false≢true h)

-- 0 suits every kind
pub param-known : (kind : ℕ) (z : ℤ) → (eq_z z (pos 0) || ((eqb kind 1 || eqb kind 6) && leb (nat_abs z) 1000000000)) ≡ param_good kind z
param-known kind z = go (eq_z z (pos 0)) refl (eqb kind 1 || eqb kind 6)
  where
    go : (b : Bool) → eq_z z (pos 0) ≡ b → (k : Bool) → (b || (k && leb (nat_abs z) 1000000000)) ≡ cond k (leb (nat_abs z) 1000000000) b
    go true e true = sym (ap (λ x. leb (nat_abs x) 1000000000) (eq_z-yes z (pos 0) e))
    go true e false = refl
    go false e true = refl
    go false e false = refl

-- a row is good by its coefficients, which are known or looked up, and by its parameter
pub row-good : (t : Tables) (r : ℕ) (ones linear suit param : Bool) (own : List ℤ) → ones ≡ all_one t.coefs → linear ≡ (ones || all_small t.coefs) → own ≡ part t r t.coefs
    → suit ≡ ((ones || (linear && eqb (nat t.kinds r) 1)) || coefs_good (nat t.kinds r) own) → param ≡ param_good (nat t.kinds r) (get_or t.params r (pos 0))
    → (suit && param) ≡ number_good t r
row-good t r ones linear suit param own o s e g p =
    ap₂ ◌&&◌ (g ∙ coefs-known (nat t.kinds r) (nat t.firsts r) (nat t.counts r) t.coefs own ones linear o s e) p
