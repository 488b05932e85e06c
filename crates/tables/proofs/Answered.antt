-- An answer and the verdict that it stands for, and a chain of checks that stops at the first that is refused: how a check that ends in `?` or in a
-- refusal answers for the whole chain. Assumes nothing.
use Prim.Native.Nat.{ℕ, ◌≤◌, ◌<◌}
use native.Mathlib.Omega.{arith}
use mathlib.Core.Bool.{Bool, true, false, cond}
use mathlib.Core.Path.{◌≡◌, refl, ap, sym, ◌∙◌}
use lib.Dec.{ltb}
use borrow.Author.Tests.{ltb-true}
use Rattle.std.specs.Prelude.{Option, Some, None, IfSome, Result, Ok, Err, IsErrAnd}
use Rattle.integers.specs.Below.{if_below}
use Rattle.paper.specs.Lists.{first_fail}
use Rattle.paper.specs.Checks.{Verdict, accepted, refused, check}
use Rattle.paper.proofs.Verdicts.{and_then, Chain, check-then}
use Rattle.tables.specs.Answers.{answer_of, unless_at, refusal}
use Rattle.tables.specs.declared.Refusal.{Refusal}

module _ {A : Type 0} where
  -- ── the verdict that an answer stands for ──
  pub accepted-is : (a b : A) (v : Verdict) → answer_of a v ≡ Ok b → v ≡ accepted
  accepted-is a b accepted e = refl
  accepted-is a b (refused number place) e = cc

  pub accepted-as : (a b : A) (v : Verdict) → answer_of a v ≡ Ok b → a ≡ b
  accepted-as a b accepted e = cc
  accepted-as a b (refused number place) e = cc

  pub refused-is : (a : A) (r : Refusal) (v : Verdict) → answer_of a v ≡ Err r → v ≡ refused r.number r.place
  refused-is a r accepted e = cc
  refused-is a r (refused number place) e = let p : refusal number place ≡ r = cc in ap (λ (x : Refusal). refused x.number x.place) p

  -- ── a part of a chain that answers by itself ──
  module _ {B : Type 0} (F : Verdict → Verdict) (next : Verdict) (chain : Chain F) where
    -- its refusal is the whole chain's
    pub answer-stops : (a : A) (b : B) (r : Refusal) → answer_of b (F accepted) ≡ Err r → Err r ≡ answer_of a (F next)
    answer-stops a b r e = go (F accepted) e ∙ sym (ap (answer_of a) (chain next))
      where
        go : (v : Verdict) → answer_of b v ≡ Err r → Err r ≡ answer_of a (and_then v next)
        go accepted h = cc
        go (refused number place) h = let p : refusal number place ≡ r = cc in ap Err (sym p)

-- and past it the rest decides
pub answer-passes : {B : Type 0} (F : Verdict → Verdict) (next : Verdict) → Chain F → (b c : B) → answer_of b (F accepted) ≡ Ok c → F next ≡ next
answer-passes F next chain b c e = chain next ∙ ap (λ v. and_then v next) (accepted-is b c (F accepted) e)

-- what the exit of a `?` answers
pub err-said : {A B : Type 0} (r : Result A B) (e : B) → IsErrAnd r (λ x. x ≡ e) → r ≡ Err e
err-said (Ok a) e h = absurd h
err-said (Err x) e h = ap Err h

-- ── one check, of each place below a bound ──
-- a place below m fits
pub place-fits : (m k : ℕ) (at : Option ℕ) → at ≡ if_below m k → m ≤ 65536 → IfSome at (λ place. place < 65536)
place-fits m k at e h = rw e (go (ltb k m) refl)
  where
    go : (b : Bool) → ltb k m ≡ b → IfSome (cond b (Some k) None) (λ place. place < 65536)
    go true q = let low = ltb-true k m q in omega arith
    go false q = tt

pub below-fits : (m : ℕ) (at : Option ℕ) → IfSome at (λ place. place < m) → m ≤ 65536 → IfSome at (λ place. place < 65536)
below-fits m None h l = tt
below-fits m (Some place) h l = omega arith

-- no place was refused: there is none
pub none_fails-none : (code : ℕ) (at : Option ℕ) (u : Unit) → unless_at code at ≡ Ok u → None ≡ at
none_fails-none code None u e = refl
none_fails-none code (Some place) u e = cc

module _ (code bound : ℕ) (good : ℕ → Bool) where
  pub none_fails-is : unless_at code (if_below bound (first_fail good bound)) ≡ answer_of tt (check code bound good accepted)
  none_fails-is = go (ltb (first_fail good bound) bound)
    where
      go : (b : Bool) → unless_at code (cond b (Some (first_fail good bound)) None) ≡ answer_of tt (cond b (refused code (first_fail good bound)) accepted)
      go true = refl
      go false = refl

  module _ (at : Option ℕ) (s : at ≡ if_below bound (first_fail good bound)) (next : Verdict) where
    pub none_fails-stops : {A : Type 0} (a : A) (r : Refusal) → unless_at code at ≡ Err r → Err r ≡ answer_of a (check code bound good next)
    none_fails-stops a r e = answer-stops (check code bound good) next (check-then code bound good) a tt r (sym none_fails-is ∙ ap (unless_at code) (sym s) ∙ e)

    pub none_fails-passes : (u : Unit) → unless_at code at ≡ Ok u → check code bound good next ≡ next
    none_fails-passes u e = answer-passes (check code bound good) next (check-then code bound good) tt u (sym none_fails-is ∙ ap (unless_at code) (sym s) ∙ e)
