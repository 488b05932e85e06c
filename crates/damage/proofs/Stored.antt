-- Those that pass a test, and lists one after another as a loop stores them. Assumes nothing.
use Prim.Native.Nat.{ℕ, zero, suc, ◌+◌, ◌≤◌, ◌<◌}
use native.Mathlib.Numerals.{add-one}
use native.Mathlib.Omega.{arith}
use mathlib.Core.Bool.{Bool, true, false, cond, beq}
use mathlib.Core.List.{List, [], ◌∷◌, ◌++◌}
use mathlib.Core.Path.{◌≡◌, refl, ap, sym, ◌∙◌}
use lib.ListN.{length, get_or, take, set, length-append}
use Rattle.damage.specs.Flags.{flag_wanted}
use lib.Seq.{sets, length-sets, get_or-take}
use Rattle.paper.specs.Lists.{those, joined}
use Rattle.paper.proofs.Bytes.{go_on}
use Rattle.paper.proofs.Those.{joined-grown, joined-le}

-- ── how many pass ──
module _ (p : ℕ → Bool) where
  pub those-more : (i : ℕ) → length (those p (i + 1)) ≡ length (those p i) + cond (p i) 1 0
  those-more i = ap (λ k. length (those p k)) (add-one i) ∙ length-append (those p i) (cond (p i) (i ∷ []) []) ∙ ap (length (those p i) +◌) (go (p i))
    where
      go : (b : Bool) → length (cond b (i ∷ []) []) ≡ cond b 1 0
      go true = refl
      go false = refl

  pub those-most : (i : ℕ) → length (those p i) ≤ i
  those-most zero = omega arith
  those-most (suc i) = let h = those-more i in let q = ap (λ k. length (those p k)) (add-one i) in go (p i) h q (those-most i)
    where
      go : (b : Bool) → length (those p (i + 1)) ≡ length (those p i) + cond b 1 0 → length (those p (i + 1)) ≡ length (those p (suc i)) → length (those p i) ≤ i
          → length (those p (suc i)) ≤ suc i
      go true h q l = omega arith
      go false h q l = omega arith

pub those-joined : (p : ℕ → Bool) (n : ℕ) → those p n ≡ joined (λ v. cond (p v) (v ∷ []) []) n
those-joined p zero = refl
those-joined p (suc n) = ap (◌++ cond (p n) (n ∷ []) []) (those-joined p n)

-- ── a loop that stores one list after another, from a place on: the first d stand, and the next begins at `to` ──
pub record Placed {A : Type 0} (f : ℕ → List A) (before : List A) (at : ℕ) (now : List A) (to d : ℕ) : Type 0 where
  pub long : length now ≡ length before
  pub place : to ≡ at + length (joined f d)
  pub written : now ≡ sets before at (joined f d)

module _ {A : Type 0} {f : ℕ → List A} {before now : List A} {at to d : ℕ} (P : Placed f before at now to d) where
  pub placed-room : (n : ℕ) → d < n → at + length (joined f n) ≤ length before → to + length (f d) ≤ length now
  placed-room n l h = let g = joined-grown f d in let a = joined-le f (suc d) n l in let p = P.place in let q = P.long in omega arith

  pub placed-next : {next : List A} {k : ℕ} → k ≡ to + length (f d) → next ≡ sets now to (f d) → Placed f before at next k (d + 1)
  placed-next {next} {k} e q = rw (add-one d) (record {
    long = ap length q ∙ length-sets now to (f d) ∙ P.long;
    place = let g = joined-grown f d in let p = P.place in omega arith;
    written = go_on before at (joined f d) (f d) to P.written P.place q;
  })

  pub placed_end : (n : ℕ) → d ≡ n → (to ≡ at + length (joined f n)) × (now ≡ sets before at (joined f n))
  placed_end n e = rw (← e) (P.place, P.written)

-- ── those that pass a test, stored as a loop comes to them ──
module _ (p : ℕ → Bool) {before now : List ℕ} {at to d : ℕ} (P : Placed (λ v. cond (p v) (v ∷ []) []) before at now to d) where
  pub placed-fits : p d ≡ true → (n : ℕ) → d < n → at + length (those p n) ≤ length before → to < length now
  placed-fits e n l h =
      let room = rw (those-joined p n) at h in
      let fits = rw e at (placed-room P n l room) in omega arith

  pub placed-taken : p d ≡ true → Placed (λ v. cond (p v) (v ∷ []) []) before at (set now to d) (to + 1) (d + 1)
  placed-taken e = placed-next P (rw e (omega arith)) (rw e refl)

  pub placed-passed : p d ≡ false → Placed (λ v. cond (p v) (v ∷ []) []) before at now to (d + 1)
  placed-passed e = placed-next P (rw e (omega arith)) (rw e refl)

pub wanted-is : (wanted flag : Bool) → flag_wanted wanted flag ≡ beq flag wanted
wanted-is true true = refl
wanted-is true false = refl
wanted-is false true = refl
wanted-is false false = refl

-- the same of a flag among the first n
pub wanted-of : (flags : List Bool) (wanted : Bool) (i n : ℕ) → i < n → {b : Bool} → beq (get_or (take n flags) i false) wanted ≡ b → flag_wanted wanted (get_or flags i false) ≡ b
wanted-of flags wanted i n l e = ap (flag_wanted wanted) (sym (get_or-take n flags i false l)) ∙ wanted-is wanted (get_or (take n flags) i false) ∙ e
