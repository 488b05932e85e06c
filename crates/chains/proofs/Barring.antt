-- The marks that are barred, variable by variable: each bars its own mark if it passes the test. Assumes nothing.
use Prim.Native.Nat.{ℕ, ◌+◌, ◌<◌}
use native.Mathlib.Numerals.{add-one}
use native.Mathlib.Omega.{arith}
use mathlib.Core.Bool.{Bool, true, false, not, ◌&&◌, ◌||◌}
use mathlib.Core.List.{List}
use mathlib.Core.Path.{◌≡◌, refl, ap, ap₂, sym, ◌∙◌}
use lib.Dec.{eqb, ltb}
use lib.ListN.{get_or, set, replicate, length-set, length-replicate, get_or-replicate, get_or-eq_default}
use lib.Seq.{get_or-set_same, get_or-set_other}
use borrow.Author.Tests.{eqb-true, eqb-false, ltb-true, ltb-false}
use Rattle.paper.specs.Lists.{nat, all_below}
use Rattle.paper.proofs.Least.{all_below-next}
use Rattle.chains.specs.Back.{BarredFlags}

module _ (test : ℕ → Bool) (marks : List ℕ) where
  pub barred-start : BarredFlags test marks 0 (replicate 65536 false)
  barred-start = record { full = length-replicate {A = Bool} 65536 false; at = λ v. go (nat marks v) (ltb (nat marks v) 65536) refl }
    where
      go : (mark : ℕ) (b : Bool) → ltb mark 65536 ≡ b → get_or (replicate 65536 false) mark false ≡ false
      go mark true e = get_or-replicate 65536 mark false false (ltb-true mark 65536 e)
      go mark false e =
          get_or-eq_default (replicate 65536 false) false {n = mark}
          (let l = length-replicate {A = Bool} 65536 false in let h = ltb-false mark 65536 e in omega arith)

  pub barred-next : (k mark : ℕ) (back : Bool) (barred : List Bool) → BarredFlags test marks k barred → mark ≡ nat marks k → mark < 65536 → back ≡ test k
      → BarredFlags test marks (k + 1) (set barred mark (get_or barred mark false || back))
  barred-next k mark back barred B em low eb = record {
    full = length-set barred mark (get_or barred mark false || back) ∙ B.full;
    at = λ v. go v (eqb (nat marks k) (nat marks v)) refl ∙ sym (step v);
  }
    where
      none : ℕ → ℕ → Bool
      none v u = not (test u && eqb (nat marks u) (nat marks v))

      deny : (a b : Bool) → not (a && not b) ≡ (not a || b)
      deny true true = refl
      deny true false = refl
      deny false b = refl

      step : (v : ℕ) → not (all_below (none v) (k + 1)) ≡ (not (all_below (none v) k) || (test k && eqb (nat marks k) (nat marks v)))
      step v =
          ap (λ (j : ℕ). not (all_below (none v) j)) (add-one k) ∙ ap not (all_below-next (none v) k)
          ∙ deny (all_below (none v) k) (test k && eqb (nat marks k) (nat marks v))

      one : (a b : Bool) → (a || b) ≡ (a || (b && true))
      one true b = refl
      one false true = refl
      one false false = refl

      kept : (a b : Bool) → a ≡ (a || (b && false))
      kept true b = refl
      kept false true = refl
      kept false false = refl

      go : (v : ℕ) (t : Bool) → eqb (nat marks k) (nat marks v) ≡ t
          → get_or (set barred mark (get_or barred mark false || back)) (nat marks v) false ≡ (not (all_below (none v) k) || (test k && t))
      go v true q =
          let full = B.full in let same : mark ≡ nat marks v = em ∙ eqb-true (nat marks k) (nat marks v) q in
          ap (λ w. get_or (set barred mark (get_or barred mark false || back)) w false) (sym same)
          ∙ get_or-set_same barred mark (get_or barred mark false || back) false (omega arith)
          ∙ ap₂ ◌||◌ (ap (λ w. get_or barred w false) same ∙ B.at v) eb ∙ one (not (all_below (none v) k)) (test k)
      go v false q =
          get_or-set_other barred mark (nat marks v) (get_or barred mark false || back) false (λ z. eqb-false (nat marks k) (nat marks v) q (sym (z ∙ em)))
          ∙ B.at v ∙ kept (not (all_below (none v) k)) (test k)
