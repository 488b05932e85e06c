-- One variable more in the list of what is marked: it was not marked, so there is room for it. Assumes nothing.
use Prim.Native.Nat.{ℕ, zero, suc, ◌+◌, ◌≤◌, ◌<◌, zero-le}
use native.Mathlib.Omega.{arith}
use mathlib.Core.Bool.{Bool, true, false, cond, false≢true}
use mathlib.Core.List.{List}
use mathlib.Core.Logic.{◌≢◌}
use mathlib.Core.Path.{◌≡◌, refl, ap, sym, ◌∙◌, subst}
use lib.Dec.{eqb}
use lib.ListN.{length, set, length-set}
use lib.Seq.{get_or-set_same, get_or-set_other}
use borrow.Author.Tests.{eqb-true, eqb-false, eq-eqb, ne_eqb}
use Rattle.paper.specs.Lists.{nat, size}
use Rattle.paper.proofs.Count.{size-add, size-le}
use Rattle.probes.specs.Touched.{Listed, Noted}
use Rattle.probes.specs.Rest.{Unmarked}

-- ── nothing is marked yet ──
pub none_passes : (p : ℕ → Bool) (n : ℕ) → ((v : ℕ) → v < n → p v ≡ false) → size p n ≡ 0
none_passes p zero h = refl
none_passes p (suc n) h = rw (h n (omega arith), none_passes p n (λ v l. h v (omega arith))) refl

pub noted-start : (n : ℕ) (by marks work touched : List ℕ) → Unmarked n marks work → n ≤ length by → n ≤ length touched → Noted n by marks work touched 0
noted-start n by marks work touched c b l = record {
  in-by = b;
  in-work = c.in-work;
  in_list = l;
  counted = sym (none_passes (λ v. eqb (nat marks v) 1) n (λ v h. ap (λ z. eqb z 1) (c.no-mark v)));
  low = λ i h. absurd (omega arith);
  listed = λ u h. absurd (false≢true (sym (ap (λ z. eqb z 1) (c.no-mark u)) ∙ eq-eqb (nat marks u) 1 h));
  planned = λ u h. c.no-work u h ∙ ap (λ z. cond (eqb z 1) (nat by u) 0) (sym (c.no-mark u));
}

-- ── one variable more ──
module _ (n : ℕ) (by marks work touched : List ℕ) (count : ℕ) (N : Noted n by marks work touched count) (v : ℕ) (l : v < n) (k : v < length marks) (ne : nat marks v ≢ 1) where
  abbrev marked : List ℕ → ℕ → Bool
  marked row u = eqb (nat row u) 1

  -- one more is marked
  more : size (marked (set marks v 1)) n ≡ suc (size (marked marks) n)
  more =
      size-add (marked marks) (marked (set marks v 1)) v n l (ne_eqb (nat marks v) 1 ne) (eq-eqb (nat (set marks v 1) v) 1 (get_or-set_same marks v 1 0 k))
      (λ u d. ap (λ z. eqb z 1) (get_or-set_other marks v u 1 0 d))

  pub note-room : count < n
  note-room = let a = more in let b = size-le (marked (set marks v 1)) n in let c = N.counted in omega arith

  pub note-next : (x y : ℕ) → x ≡ nat by v → y ≡ v → Noted n by (set marks v 1) (set work v x) (set touched count y) (count + 1)
  note-next x y e q = record {
    in-by = N.in-by;
    in-work = let h = length-set work v x in let a = N.in-work in omega arith;
    in_list = let h = length-set touched count y in let a = N.in_list in omega arith;
    counted = let a = more in let c = N.counted in omega arith;
    low = λ i h. low i h (eqb i count) refl;
    listed = λ u h. listed u h (eqb u v) refl;
    planned = λ u h. planned u h (eqb u v) refl;
  }
    where
      here : nat (set touched count y) count ≡ v
      here = get_or-set_same touched count y 0 (let r = note-room in let a = N.in_list in omega arith) ∙ q

      low : (i : ℕ) → i < count + 1 → (b : Bool) → eqb i count ≡ b → nat (set touched count y) i < n
      low i h true p = subst (λ j. nat (set touched count y) j < n) (sym (eqb-true i count p)) (subst (λ z. z < n) (sym here) l)
      low i h false p = let d = eqb-false i count p in subst (λ z. z < n) (sym (get_or-set_other touched count i y 0 d)) (N.low i (omega arith))

      listed : (u : ℕ) → nat (set marks v 1) u ≡ 1 → (b : Bool) → eqb u v ≡ b → Listed (set touched count y) 0 (count + 1) u
      listed u h true p = record { place = count; from = zero-le; before = omega arith; is = here ∙ sym (eqb-true u v p) }
      listed u h false p =
          let was = N.listed u (sym (get_or-set_other marks v u 1 0 (eqb-false u v p)) ∙ h) in
          let low = was.before in
          record { place = was.place; from = zero-le; before = omega arith; is = get_or-set_other touched count was.place y 0 (λ z. absurd (omega arith)) ∙ was.is }

      planned : (u : ℕ) → u < n → (b : Bool) → eqb u v ≡ b → nat (set work v x) u ≡ cond (eqb (nat (set marks v 1) u) 1) (nat by u) 0
      planned u h true p = subst (λ w. nat (set work v x) w ≡ cond (eqb (nat (set marks v 1) w) 1) (nat by w) 0) (sym (eqb-true u v p))
          (get_or-set_same work v x 0 (let a = N.in-work in omega arith) ∙ e ∙ ap (λ b. cond b (nat by v) 0) (sym (eq-eqb (nat (set marks v 1) v) 1 (get_or-set_same marks v 1 0 k))))
      planned u h false p =
          let d = eqb-false u v p in
          get_or-set_other work v u x 0 d ∙ N.planned u h ∙ ap (λ z. cond (eqb z 1) (nat by u) 0) (sym (get_or-set_other marks v u 1 0 d))
