-- The mark and the number of a group, place by place of the stack. Assumes nothing.
use Prim.Native.Nat.{ℕ, ◌+◌, ◌-◌, ◌≤◌, ◌<◌}
use native.Mathlib.Nat.{lt_irrefl}
use native.Mathlib.Omega.{arith}
use mathlib.Core.List.{List}
use mathlib.Core.Logic.{⊎_elim, ◌≢◌}
use mathlib.Core.Path.{◌≡◌, refl, ap, sym, ◌∙◌}
use lib.ListN.{length, get_or, take, drop, set, length-drop, length-set}
use lib.Seq.{get_or-set_same, get_or-set_other, get_or-take, get_or-drop, length-take-le}
use Rattle.paper.specs.Lists.{nat}
use Rattle.paper.proofs.Count.{size-le}
use Rattle.groups.specs.Stack.{entered, Stacked, Marked}
use Rattle.paper.proofs.Lists.{same_or}

-- what a part of the stack holds
pub part-at : (stack : List ℕ) (a e i : ℕ) → a ≤ e → e ≤ length stack → i < length (take (e - a) (drop a stack))
    → (a + i < e) × (get_or (take (e - a) (drop a stack)) i 0 ≡ nat stack (a + i))
part-at stack a e i h k l =
    let d = length-drop a stack in let t = length-take-le (e - a) (drop a stack) (omega arith) in
    (omega arith, get_or-take (e - a) (drop a stack) i 0 (omega arith) ∙ get_or-drop a stack i 0)

module _ (n : ℕ) (marks stack : List ℕ) (S : Stacked n marks stack) where
  -- as many wait as variables at most
  pub stacked-few : nat stack 0 ≤ n
  stacked-few = let a = S.few in let b = size-le (entered marks) n in omega arith

  pub stacked-below : (i : ℕ) → 0 < i → i ≤ nat stack 0 → nat stack i < n
  stacked-below i a b = let e = S.at i a b in S.below (nat stack i) (omega arith)

  module _ (few : n ≤ 4096) where
    -- what has place i is what stands there
    pub stacked-is : (v i : ℕ) → 0 < i → i ≤ nat stack 0 → nat marks v ≡ i → v ≡ nat stack i
    stacked-is v i a b e = let f = stacked-few in sym (S.back v (record { some = omega arith; few = omega arith })).1 ∙ ap (nat stack) e

    module _ (p mark number : ℕ) (numbers : List ℕ) (some : 0 < p) where
      pub marked_start : Marked p p mark number marks numbers marks numbers
      marked_start = record {
        marks-long = refl;
        numbers-long = refl;
        inside = λ v a b. absurd (lt_irrefl p (omega arith));
        before = λ v a. (refl, refl);
        beyond = λ v a. (refl, refl);
      }

      pub marked_next : (i v : ℕ) (marks' numbers' : List ℕ) → n ≤ length numbers → p ≤ i → i ≤ nat stack 0 → v ≡ nat stack i → Marked p i mark number marks numbers marks' numbers'
          → Marked p (i + 1) mark number marks numbers (set marks' v mark) (set numbers' v number)
      marked_next i v marks' numbers' long l h e M = record {
        marks-long = rw length-set M.marks-long;
        numbers-long = rw length-set M.numbers-long;
        inside = λ u a b. ⊎_elim (λ s. inside-same u (s ∙ sym e)) (λ s. inside-other u a b s) (same_or u (nat stack i));
        before = λ u a. let (x, y) = M.before u a in let ne = other u (λ z. lt_irrefl i (omega arith)) in (marks-other u ne ∙ x, numbers-other u ne ∙ y);
        beyond = λ u a. let (x, y) = M.beyond u (omega arith) in let ne = other u (λ z. lt_irrefl i (omega arith)) in (marks-other u ne ∙ x, numbers-other u ne ∙ y);
      }
        where
          at : nat marks v ≡ i
          at = ap (nat marks) e ∙ S.at i (omega arith) h

          low : v < n
          low = let a = at in S.below v (omega arith)

          other : (u : ℕ) → nat marks u ≢ i → u ≢ v
          other u ne s = ne (ap (nat marks) s ∙ at)

          marks-other : (u : ℕ) → u ≢ v → nat (set marks' v mark) u ≡ nat marks' u
          marks-other u ne = get_or-set_other marks' v u mark 0 ne

          numbers-other : (u : ℕ) → u ≢ v → nat (set numbers' v number) u ≡ nat numbers' u
          numbers-other u ne = get_or-set_other numbers' v u number 0 ne

          inside-same : (u : ℕ) → u ≡ v → (nat (set marks' v mark) u ≡ mark) × (nat (set numbers' v number) u ≡ number)
          inside-same u s =
              let a = M.marks-long in let b = M.numbers-long in let c = S.marks-long in let d = low in
              (ap (nat (set marks' v mark)) s ∙ get_or-set_same marks' v mark 0 (omega arith), ap (nat (set numbers' v number)) s ∙ get_or-set_same numbers' v number 0 (omega arith))

          inside-other : (u : ℕ) → p ≤ nat marks u → nat marks u < i + 1 → u ≢ nat stack i → (nat (set marks' v mark) u ≡ mark) × (nat (set numbers' v number) u ≡ number)
          inside-other u a b s =
              let ne : nat marks u ≢ i = λ z. s (stacked-is u i (omega arith) h z) in
              let (x, y) = M.inside u a (omega arith) in
              let q = other u ne in
              (marks-other u q ∙ x, numbers-other u q ∙ y)
