-- A row of marks, one for each variable below 4,096: set at those that a list names before place i. Assumes nothing.
use Prim.Native.Nat.{ℕ, ◌+◌, ◌<◌}
use native.Mathlib.Omega.{arith}
use mathlib.Core.Bool.{Bool, true, false, cond, not, ◌||◌, or-true, or-false}
use mathlib.Core.List.{List, [], ◌∷◌}
use mathlib.Core.Path.{◌≡◌, refl, ap, ap₂, sym, ◌∙◌}
use Rattle.std.specs.List.{list_any}
use lib.Dec.{eqb, ltb}
use lib.ListN.{length, get_or, take, set, replicate, length-set, length-replicate, get_or-replicate}
use lib.Seq.{get_or-set_same, get_or-set_other}
use borrow.Author.Tests.{eqb-true, eqb-false, eq-eqb, ltb-true}
use Rattle.paper.specs.Lists.{any, nat}
use Rattle.paper.specs.Checks.{made_once}
use Rattle.paper.proofs.Scan.{any_next}
use Rattle.checks.specs.Named.{makes_rows, named_before}

-- a list is asked whether it holds v entry by entry
pub holds-any : (v : ℕ) (l : List ℕ) → list_any (λ y. eqb y v) l ≡ any (eqb v) l
holds-any v [] = refl
holds-any v (x ∷ xs) = ap₂ ◌||◌ (both (eqb x v) (eqb v x) refl refl) (holds-any v xs)
  where
    both : (a b : Bool) → eqb x v ≡ a → eqb v x ≡ b → a ≡ b
    both true b p q = sym (eq-eqb v x (sym (eqb-true x v p))) ∙ q
    both false true p q = sym p ∙ eq-eqb x v (sym (eqb-true v x q))
    both false false p q = refl

pub record Seen (l : List ℕ) (seen : List Bool) (i : ℕ) : Type 0 where
  pub full : length seen ≡ 4096
  pub at : (v : ℕ) → v < 4096 → get_or seen v false ≡ any (eqb v) (take i l)

pub seen_start : (l : List ℕ) → Seen l (replicate 4096 false) 0
seen_start l = record { full = length-replicate {A = Bool} 4096 false; at = λ v h. get_or-replicate 4096 v false false h }

-- the mark of the variable at place i is set, if it has one
pub seen_next : (l : List ℕ) (seen : List Bool) (i : ℕ) → Seen l seen i → i < length l → Seen l (set seen (nat l i) true) (i + 1)
seen_next l seen i s h = record {
  full = length-set seen (nat l i) true ∙ s.full;
  at = λ w k. go w k (eqb w (nat l i)) refl (s.at w k) ∙ sym (any_next (eqb w) l i 0 h);
}
  where
    go : (w : ℕ) → w < 4096 → (t : Bool) → eqb w (nat l i) ≡ t → get_or seen w false ≡ any (eqb w) (take i l)
        → get_or (set seen (nat l i) true) w false ≡ (any (eqb w) (take i l) || t)
    go w k true q f =
        let same = eqb-true w (nat l i) q in let full = s.full in
        ap (λ x. get_or (set seen (nat l i) true) x false) same ∙ get_or-set_same seen (nat l i) true false (omega arith) ∙ sym (or-true (any (eqb w) (take i l)))
    go w k false q f = get_or-set_other seen (nat l i) w true false (eqb-false w (nat l i) q) ∙ f ∙ sym (or-false (any (eqb w) (take i l)))

-- the mark of the variable at place i, if it has one, says what the places before it say
pub seen-once : (l : List ℕ) (seen : List Bool) (i : ℕ) → Seen l seen i → made_once (makes_rows l) i ≡ not (named_before seen l i)
seen-once l seen i s = ap not (go (ltb (nat l i) (length seen)) refl)
  where
    go : (b : Bool) → ltb (nat l i) (length seen) ≡ b → any (eqb (nat l i)) (take i l) ≡ cond b (get_or seen (nat l i) false) (any (eqb (nat l i)) (take i l))
    go true q = let low = ltb-true (nat l i) (length seen) q in let full = s.full in sym (s.at (nat l i) (omega arith))
    go false q = refl
