-- Every formula over inputs that are numbers of the range or blank gives a number of the range or blank: it judges its exact result, or gives
-- one of the inputs or a number between two of them, or counts places. Assumes nothing.
use Prim.Native.Nat.{ℕ, zero, suc, ◌≤◌}
use native.Mathlib.Omega.{arith}
use mathlib.Core.Bool.{Bool, true, false, cond, ◌||◌}
use mathlib.Core.List.{List, [], ◌∷◌}
use mathlib.Core.Logic.{⊎_elim}
use mathlib.Core.Path.{◌≡◌, refl, ap, sym, ◌∙◌}
use lib.Dec.{eqb, leb}
use lib.IntN.{ℤ, pos, negsuc, nat_abs, ◌+ℤ◌, ◌-ℤ◌}
use lib.Signed.{lt_z, le_z}
use lib.ListN.{length}
use borrow.Author.Tests.{leb-true, leb-false, le-leb}
use Rattle.integers.specs.Integers.{up, dn, eq_z}
use Rattle.integers.proofs.Parts.{one-part, from_parts}
use Rattle.integers.proofs.Order.{lt_yes, le_yes, eq_z-yes, nat_abs-away}
use Rattle.paper.specs.Lists.{all, tally}
use Rattle.paper.specs.Formula.{blank, in_range, fit, some_blank, sum, lesser, greater, valued, extreme, element, places, trips, last, input_at, formula}
use Rattle.paper.proofs.Lists.{and_left, and_right, or_right, all_in}
use Rattle.paper.proofs.Extreme.{is_blank, Extreme, least, most, none_left}
use Rattle.paper.proofs.Formulas.{tally-le}
use Rattle.paper.proofs.Windows.{Between, last-lies}

-- a number of the range, or blank
abbrev pub good : ℤ → Bool
good z = in_range z || eq_z z blank

either : (b : Bool) (x y : ℤ) → good x ≡ true → good y ≡ true → good (cond b x y) ≡ true
either true x y p q = p
either false x y p q = q

-- ── an exact result that is judged ──
fit-good : (z : ℤ) → good (fit z) ≡ true
fit-good z = go (in_range z) refl
  where
    go : (b : Bool) → in_range z ≡ b → good (cond b z blank) ≡ true
    go true e = ap (◌|| eq_z z blank) e
    go false e = refl

-- ── a number between two of the inputs ──
good-parts : (z : ℤ) → good z ≡ true → (up z ≤ 2147483647) × (dn z ≤ 2147483648)
good-parts z g = go (in_range z) refl
  where
    go : (b : Bool) → in_range z ≡ b → (up z ≤ 2147483647) × (dn z ≤ 2147483648)
    go true e = omega (arith, leb-true (nat_abs z) 2147483647 e, nat_abs-away z)
    go false e = rw (eq_z-yes z blank (sym (ap (◌|| eq_z z blank) e) ∙ g)) (omega arith)

parts-good : (z : ℤ) → up z ≤ 2147483647 → dn z ≤ 2147483648 → good z ≡ true
parts-good z h k = go (in_range z) refl
  where
    go : (b : Bool) → in_range z ≡ b → (in_range z || eq_z z blank) ≡ true
    go true e = ap (◌|| eq_z z blank) e
    go false e =
        let l = leb-false (nat_abs z) 2147483647 e in let a = nat_abs-away z in let o = one-part z in
        or_right (in_range z) (ap (λ x. eq_z x blank) (from_parts z blank (omega arith) (omega arith)))

last-good : (s e h : ℤ) → good s ≡ true → good e ≡ true → good (last s e h) ≡ true
last-good s e h p q = ⊎_elim (λ b. ap good b) within (last-lies s e h)
  where
    within : Between s (last s e h) e → good (last s e h) ≡ true
    within b =
        let z = last s e h in
        let m = good-parts s p in let n = good-parts e q in let f = le_yes s z b.0 in let g = lt_yes z e b.1 in
        parts-good z (omega (arith, one-part z, one-part e)) (omega (arith, one-part z, one-part s))

-- ── one of the inputs, or blank ──
at-good : (xs : List ℤ) → all good xs ≡ true → (i : ℕ) → good (input_at xs i) ≡ true
at-good [] v i = refl
at-good (x ∷ xs) v zero = and_left (good x) (all good xs) v
at-good (x ∷ xs) v (suc i) = at-good xs (and_right (good x) (all good xs) v) i

element-good : (xs : List ℤ) → all good xs ≡ true → good (element xs) ≡ true
element-good [] v = refl
element-good (pos i ∷ xs) v = at-good xs (and_right (good (pos i)) (all good xs) v) i
element-good (negsuc i ∷ xs) v = refl

extreme-good : (test : ℤ → ℤ → Bool) (f : ℤ → ℤ → ℤ) → ((xs : List ℤ) → all is_blank xs ≡ false → Extreme test (extreme f (valued xs)) xs)
    → (xs : List ℤ) → all good xs ≡ true → good (extreme f (valued xs)) ≡ true
extreme-good test f law xs v = go (all is_blank xs) refl
  where
    go : (b : Bool) → all is_blank xs ≡ b → good (extreme f (valued xs)) ≡ true
    go true e = or_right (in_range (extreme f (valued xs))) (none_left test f law xs ∙ e)
    go false e = all_in good xs v (law xs e).one

-- ── a number of places ──
tally-good : (p : ℤ → Bool) (xs : List ℤ) → length xs ≤ 2147483647 → good (pos (tally p xs)) ≡ true
tally-good p xs few = ap (◌|| false) (le-leb (tally p xs) 2147483647 (omega (arith, tally-le p xs)))

-- ── every formula ──
pub formula-good : (kind : ℕ) (param : ℤ) (coefs xs : List ℤ) → all good xs ≡ true → length xs ≤ 2147483647 → good (formula kind param coefs xs) ≡ true
unfolding formula
formula-good kind param coefs xs v few =
    either (eqb kind 4) _ _ (element-good xs v)
    (either (eqb kind 2) _ _ (extreme-good le_z lesser least xs v)
    (either (eqb kind 3) _ _ (extreme-good (λ z x. le_z x z) greater most xs v)
    (either (some_blank xs) _ _ refl
    (either (eqb kind 1) _ _ (fit-good (param +ℤ sum coefs xs))
    (either (eqb kind 5) _ _ (tally-good (λ x. leb 2 (places x xs)) xs few)
    (either (eqb kind 6) _ _ (tally-good (λ x. eq_z x param) xs few)
    (either (eqb kind 7) _ _ (either (lt_z b a) _ _ (fit-good (a -ℤ b)) refl)
    (either (eqb kind 8) _ _ (either (le_z c (pos 0)) _ _ refl (fit-good (pos (trips a b c))))
    (either (eqb kind 9) _ _ (last-good a b c (at-good xs v 0) (at-good xs v 1))
    refl)))))))))
  where
    a : ℤ
    a = input_at xs 0

    b : ℤ
    b = input_at xs 1

    c : ℤ
    c = input_at xs 2
