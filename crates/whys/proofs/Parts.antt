-- A row noted part by part: each part stands beside those before it, and a part in which nothing is to be noted stands as it did. Assumes nothing.
use Prim.Native.Nat.{ℕ, ◌+◌, ◌-◌, ◌≤◌, ◌<◌}
use native.Mathlib.Nat.{le_refl, lt_irrefl}
use native.Mathlib.Omega.{arith}
use mathlib.Core.Bool.{Bool, true, false, cond, ◌&&◌, true≢false}
use mathlib.Core.List.{List}
use mathlib.Core.Logic.{inl, inr, ⊎_elim}
use mathlib.Core.Path.{◌≡◌, refl, ap, sym, ◌∙◌}
use borrow.Author.Tests.{ltb-true, ltb-false, eqb-true, eqb-false}
use lib.Dec.{eqb, ltb}
use lib.IntN.{ℤ, pos}
use lib.ListN.{length, get_or, take, drop, set, length-set, length-drop}
use lib.Seq.{get_or-set_same, get_or-set_other, ext_get_or, get_or-take, get_or-drop}
use Rattle.integers.specs.Integers.{eq_z}
use Rattle.paper.specs.Lists.{nat, over}
use Rattle.paper.specs.Formula.{blank}
use Rattle.paper.specs.Calls.{blanks_among}
use Rattle.paper.proofs.Count.{size-zero}
use Rattle.paper.proofs.Buffers.{over-of}
use Rattle.whys.specs.Rows.{PartNoted}

-- a part in which each stands as it is to be noted
pub part-still : {left : ℕ → ℕ → ℕ} {v end : ℕ} {row : List ℕ} → ((u : ℕ) → v ≤ u → u < end → nat row u ≡ left (nat row u) u) → PartNoted left v end row row
part-still same = record { long = refl; inside = same; outside = λ u o. refl }

module _ {left : ℕ → ℕ → ℕ} {before : List ℕ} where
  pub part_none : {first : ℕ} → PartNoted left first first before before
  part_none = record { long = refl; inside = λ v l h. absurd (lt_irrefl v (omega arith)); outside = λ v o. refl }

  pub part-next : {first v x : ℕ} {row : List ℕ} → PartNoted left first v before row → first ≤ v → v < length row → x ≡ left (nat row v) v → PartNoted left first (v + 1) before (set row v x)
  part-next {first} {v} {x} {row} s f h e = record {
    long = length-set row v x ∙ s.long;
    inside = λ u l k. go u l k (eqb u v) refl;
    outside = λ u o. get_or-set_other row v u x 0 (⊎_elim (λ l q. lt_irrefl v (omega arith)) (λ l q. lt_irrefl v (omega arith)) o) ∙ s.outside u (⊎_elim (λ l. inl l) (λ l. inr (omega arith)) o);
  }
    where
      go : (u : ℕ) → first ≤ u → u < v + 1 → (t : Bool) → eqb u v ≡ t → nat (set row v x) u ≡ left (nat before u) u
      go u l k true q =
          let here = eqb-true u v q in
          ap (nat (set row v x)) here ∙ get_or-set_same row v x 0 h ∙ e ∙ ap (λ z. left z v) (s.outside v (inr (le_refl v))) ∙ ap (λ z. left (nat before z) z) (sym here)
      go u l k false q = let ne = eqb-false u v q in get_or-set_other row v u x 0 ne ∙ s.inside u l (omega arith)

  -- a part behind what has been noted from the front
  pub part_join : {v end : ℕ} {row after : List ℕ} → PartNoted left 0 v before row → v ≤ end → PartNoted left v end row after → PartNoted left 0 end before after
  part_join {v} {end} {row} {after} s h p = record {
    long = p.long ∙ s.long;
    inside = λ u l k. go u l k (ltb u v) refl;
    outside = λ u o. p.outside u (⊎_elim (λ l. inl (omega arith)) (λ l. inr l) o) ∙ s.outside u (⊎_elim (λ l. inl l) (λ l. inr (omega arith)) o);
  }
    where
      go : (u : ℕ) → 0 ≤ u → u < end → (t : Bool) → ltb u v ≡ t → nat after u ≡ left (nat before u) u
      go u l k true q = let low = ltb-true u v q in p.outside u (inl low) ∙ s.inside u l low
      go u l k false q = let high = ltb-false u v q in p.inside u high k ∙ ap (λ z. left z u) (s.outside u (inr high))

  pub part-all : {n : ℕ} {row : List ℕ} → n ≤ length before → PartNoted left 0 n before row → row ≡ over n (λ v. left (nat before v) v) before
  part-all {n} {row} room s = over-of (λ v. left (nat before v) v) n before row 0 s.long room (λ v l. s.inside v (omega arith) l) back
    where
      back : drop n row ≡ drop n before
      back = ext_get_or 0 (drop n row) (drop n before) (length-drop n row ∙ (let e = s.long in let f = length-drop n before in omega arith))
          (λ i l. get_or-drop n row i 0 ∙ s.outside (n + i) (inr (omega arith)) ∙ sym (get_or-drop n before i 0))

-- where none of the values from v to before end is blank there is nothing to note
pub none-blank : (values : List ℤ) (v end : ℕ) → blanks_among (end - v) (λ i. get_or (take (end - v) (drop v values)) i (pos 0)) ≡ 0
    → (u : ℕ) → v ≤ u → u < end → (flagged : Bool) (told stored : ℕ) → stored ≡ cond (flagged && eq_z (get_or values u (pos 0)) blank) told stored
none-blank values v end none u low high flagged told stored = go flagged (eq_z (get_or values u (pos 0)) blank) (ap (λ x. eq_z x blank) (sym same) ∙ size-zero (λ i. eq_z (get_or part i (pos 0)) blank) (end - v) none (u - v) (omega arith))
  where
    part : List ℤ
    part = take (end - v) (drop v values)

    same : get_or part (u - v) (pos 0) ≡ get_or values u (pos 0)
    same = let e : v + (u - v) ≡ u = omega arith in get_or-take (end - v) (drop v values) (u - v) (pos 0) (omega arith) ∙ get_or-drop v values (u - v) (pos 0) ∙ ap (λ i. get_or values i (pos 0)) e

    go : (a z : Bool) → z ≡ false → stored ≡ cond (a && z) told stored
    go true true q = absurd (true≢false q)
    go true false q = refl
    go false z q = refl
