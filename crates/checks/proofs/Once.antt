-- The row of makers names the first row that makes a variable: a later row that makes it is not the one named. Assumes nothing.
use Prim.Native.Nat.{ℕ, zero, suc, ◌+◌, ◌≤◌, ◌<◌}
use native.Mathlib.Nat.{lt_irrefl, not-suc-le-zero}
use native.Mathlib.Numerals.{add-one}
use native.Mathlib.Omega.{arith}
use mathlib.Core.Bool.{Bool, true, false, cond, not, ◌||◌}
use mathlib.Core.List.{List, [], ◌∷◌}
use mathlib.Core.Path.{◌≡◌, refl, ap, sym, ◌∙◌}
use lib.Dec.{eqb, ltb, eqb-zero-suc, eqb-suc-suc}
use lib.ListN.{length, take}
use lib.Seq.{take-take, get_or-take, length-take-le}
use borrow.Author.Tests.{ltb-true, ltb-false, eqb-true, eq-eqb, ne_eqb}
use Rattle.paper.specs.Lists.{any, nat, seek}
use Rattle.paper.specs.Checks.{made_once}
use Rattle.checks.specs.Named.{makes_rows}
use Rattle.checks.specs.Once.{Made}

-- the place where v is found is none after one where it stands
seek-low : (v : ℕ) (xs : List ℕ) (r : ℕ) → r < length xs → nat xs r ≡ v → seek v xs ≤ r
seek-low v [] r l e = absurd (not-suc-le-zero l)
seek-low v (x ∷ xs) zero l e = rw (eq-eqb x v e) (omega arith)
seek-low v (x ∷ xs) (suc r) l e = go (eqb x v) (seek-low v xs r (omega arith) e)
  where
    go : (b : Bool) → seek v xs ≤ r → cond b zero (suc (seek v xs)) ≤ suc r
    go true h = omega arith
    go false h = omega arith

-- and it is r if v stands there and at none before
seek-once : (v : ℕ) (xs : List ℕ) (r : ℕ) → r < length xs → nat xs r ≡ v → eqb (seek v xs) r ≡ not (any (eqb v) (take r xs))
seek-once v [] r l e = absurd (not-suc-le-zero l)
seek-once v (x ∷ xs) zero l e = rw (eq-eqb x v e) refl
seek-once v (x ∷ xs) (suc r) l e = go (eqb x v) refl (seek-once v xs r (omega arith) e)
  where
    go : (b : Bool) → eqb x v ≡ b → eqb (seek v xs) r ≡ not (any (eqb v) (take r xs)) → eqb (cond b zero (suc (seek v xs))) (suc r) ≡ not (eqb v x || any (eqb v) (take r xs))
    go true q h = eqb-zero-suc r ∙ sym (ap (λ b. not (b || any (eqb v) (take r xs))) (eq-eqb v x (sym (eqb-true x v q))))
    go false q h = eqb-suc-suc (seek v xs) r ∙ h ∙ sym (ap (λ b. not (b || any (eqb v) (take r xs))) (other (eqb v x) refl))
      where
        other : (b : Bool) → eqb v x ≡ b → b ≡ false
        other true k = sym (eq-eqb x v (sym (eqb-true v x k))) ∙ q
        other false k = refl

once-told : (n m : ℕ) (makes by : List ℕ) → Made n m makes by → (r : ℕ) → r < m → eqb (nat by (nat makes r)) (r + 1) ≡ made_once (makes_rows makes) r
once-told n m makes by M r l =
    ap (λ k. eqb k (r + 1)) (M.at (nat makes r) (M.below r l)) ∙ go (ltb place m) refl
    ∙ seek-once (nat makes r) (take m makes) r (let h = M.rows in let k = length-take-le m makes h in omega arith) (get_or-take m makes r 0 l)
    ∙ ap (λ xs. not (any (eqb (nat makes r)) xs)) (take-take r m makes (omega arith))
  where
    place : ℕ
    place = seek (nat makes r) (take m makes)

    go : (b : Bool) → ltb place m ≡ b → eqb (cond b (suc place) 0) (r + 1) ≡ eqb place r
    go true q = ap (eqb (suc place)) (add-one r) ∙ eqb-suc-suc place r
    go false q =
        let high = ltb-false place m q in
        ap (eqb 0) (add-one r) ∙ eqb-zero-suc r ∙ sym (ne_eqb place r (λ e. lt_irrefl r (omega arith)))

module _ (n m : ℕ) (makes by : List ℕ) (M : Made n m makes by) (r : ℕ) (l : r < m) where
  named-low : nat by (nat makes r) ≤ r + 1
  named-low =
      rw (M.at (nat makes r) (M.below r l))
      (go (ltb (seek (nat makes r) (take m makes)) m) (seek-low (nat makes r) (take m makes) r (let h = M.rows in let k = length-take-le m makes h in omega arith) (get_or-take m makes r 0 l)))
    where
      go : (b : Bool) → seek (nat makes r) (take m makes) ≤ r → cond b (suc (seek (nat makes r) (take m makes))) 0 ≤ r + 1
      go true h = omega arith
      go false h = omega arith

  -- an earlier row is named, or none is
  named-earlier : nat by (nat makes r) ≤ r → made_once (makes_rows makes) r ≡ false
  named-earlier h = sym (once-told n m makes by M r l) ∙ ne_eqb (nat by (nat makes r)) (r + 1) (λ e. lt_irrefl r (omega arith))

  named-itself : r < nat by (nat makes r) → made_once (makes_rows makes) r ≡ true
  named-itself h = let k = named-low in sym (once-told n m makes by M r l) ∙ eq-eqb (nat by (nat makes r)) (r + 1) (omega arith)

  -- as the code asks
  pub named-told : ltb r (nat by (nat makes r)) ≡ made_once (makes_rows makes) r
  named-told = go (ltb r (nat by (nat makes r))) refl
    where
      go : (b : Bool) → ltb r (nat by (nat makes r)) ≡ b → b ≡ made_once (makes_rows makes) r
      go true q = sym (named-itself (ltb-true r (nat by (nat makes r)) q))
      go false q = sym (named-earlier (ltb-false r (nat by (nat makes r)) q))
