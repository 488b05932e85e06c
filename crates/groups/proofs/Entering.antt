-- A variable is entered: it stands on top of the stack, and no closed group has changed. Assumes nothing.
use Prim.Native.Nat.{ℕ, ◌+◌, ◌≤◌, ◌<◌}
use native.Mathlib.Nat.{lt_irrefl}
use native.Mathlib.Omega.{arith}
use mathlib.Core.Bool.{true}
use mathlib.Core.List.{List}
use mathlib.Core.Logic.{⊎_elim, ◌≢◌}
use mathlib.Core.Path.{◌≡◌, refl, ap, sym, ◌∙◌, subst}
use lib.ListN.{length, set, length-set}
use lib.Seq.{get_or-set_same, get_or-set_other}
use borrow.Author.Tests.{ltb-true, lt-ltb, le-ltb}
use Rattle.paper.specs.Lists.{nat}
use Rattle.paper.proofs.Count.{size-le, size-add, size_mono, size-more}
use Rattle.groups.specs.Walk.{closed, Reaches, here, Settled, WalkState, Leading}
use Rattle.groups.specs.Stack.{entered, Waits, Stacked}
use Rattle.paper.proofs.Lists.{same_or}

-- the closed groups are as they were
pub settled-kept : (n : ℕ) (dep : ℕ → List ℕ) (marks marks' numbers : List ℕ) → Settled n dep marks numbers → ((u : ℕ) → 4096 < nat marks' u → nat marks' u ≡ nat marks u)
    → ((u : ℕ) → 4096 < nat marks u → nat marks' u ≡ nat marks u) → Settled n dep marks' numbers
settled-kept n dep marks marks' numbers S was now = record {
  long = S.long;
  links = λ v i h m. let a = is v h in let b = S.links v i a m in let c = now i b in omega arith;
  root = λ v r e. let a = was v (omega arith) in let b = S.root v r (omega arith) in let c = now r (omega arith) in omega arith;
  same = λ v w h p q. let a = was v h in let b = S.same v w (is v h) p q in let c = now w (omega arith) in omega arith;
  one = λ v w h e. let a = was v h in let b = was w (omega arith) in S.one v w (omega arith) (omega arith);
  shared = λ v w h e. let a = was v h in let b = was w (omega arith) in S.shared v w (omega arith) (omega arith);
  leaf = λ v h. S.leaf v (is v h);
  linked = λ v i h. S.linked v i (is v h);
  lower = λ v i h m ne. let a = was v h in let b = now i (S.links v i (is v h) m) in S.lower v i (is v h) m (λ z. ne (omega arith));
  hit = λ v h l.
      let (w, i, e, m, ne, q) = S.hit v (is v h) l in
      let a = was v h in let b = now w (omega arith) in let c = now i (S.links w i (omega arith) m) in
      (w, i, omega arith, m, (λ z. ne (omega arith)), q);
  small = λ v h.
      let a = S.small v (is v h) in
      let b = size_mono (closed marks) (closed marks') n (λ u p. let c = ltb-true 4096 (nat marks u) p in let d = now u c in lt-ltb 4096 (nat marks' u) (omega arith)) in
      omega arith;
}
  where
    is : (v : ℕ) → 4096 < nat marks' v → 4096 < nat marks v
    is v h = let a = was v h in omega arith

-- v has been entered at place p: `before` are the marks before that, mid and stack the rows after it
pub record Begun (n : ℕ) (dep : ℕ → List ℕ) (v p : ℕ) (before mid stack : List ℕ) : Type 0 where
  pub few : n ≤ 4096
  pub below : v < n
  pub some : 0 < p
  pub small : p ≤ n
  pub unseen : nat before v ≡ 0
  pub stacked : Stacked n mid stack
  pub height : nat stack 0 ≡ p
  pub at : nat mid v ≡ p
  pub there : (u : ℕ) → u ≢ v → nat mid u ≡ nat before u
  pub older : (u : ℕ) → Waits before u → nat before u < p
  pub leads : (u : ℕ) → Waits mid u → Reaches dep u v

module _ (n : ℕ) (dep : ℕ → List ℕ) (v : ℕ) (marks stack numbers : List ℕ) (S : WalkState n dep marks stack numbers) (few : n ≤ 4096) (l : v < n) (unseen : nat marks v ≡ 0) where
  -- not all have been entered
  pub enter-room : nat stack 0 < n
  enter-room =
      let a = size-more (entered marks) (λ u. true) v n l (le-ltb 0 (nat marks v) (omega arith)) refl (λ u e. refl) in
      let b = size-le (λ u. true) n in
      let c = S.stacked.few in
      omega arith

  module _ (L : Leading dep v marks) (p : ℕ) (mid tops : List ℕ) (ep : p ≡ nat stack 0 + 1) (em : mid ≡ set marks v p) (es : tops ≡ set (set stack p v) 0 p) where
    mid-here : nat mid v ≡ p
    mid-here = ap (λ row. nat row v) em ∙ get_or-set_same marks v p 0 (let h = S.stacked.marks-long in omega arith)

    mid-there : (u : ℕ) → u ≢ v → nat mid u ≡ nat marks u
    mid-there u ne = ap (λ row. nat row u) em ∙ get_or-set_other marks v u p 0 ne

    tops-length : length tops ≡ length stack
    tops-length = ap length es ∙ simp length-set

    tops-zero : nat tops 0 ≡ p
    tops-zero = ap (λ row. nat row 0) es ∙ get_or-set_same (set stack p v) 0 p 0 (simp length-set (let h = S.stacked.room in omega arith))

    tops-at : nat tops p ≡ v
    tops-at =
        let r = enter-room in let h = S.stacked.room in
        ap (λ row. nat row p) es ∙ get_or-set_other (set stack p v) 0 p p 0 (λ z. lt_irrefl 0 (omega arith)) ∙ get_or-set_same stack p v 0 (omega arith)

    tops-other : (i : ℕ) → 0 < i → i < p → nat tops i ≡ nat stack i
    tops-other i a b = ap (λ row. nat row i) es ∙ get_or-set_other (set stack p v) 0 i p 0 (λ z. lt_irrefl 0 (omega arith)) ∙ get_or-set_other stack p i v 0 (λ z. lt_irrefl i (omega arith))

    -- what has been entered is not v
    other : (u : ℕ) → 0 < nat marks u → u ≢ v
    other u h s = let e : nat marks u ≡ nat marks v = ap (nat marks) s in lt_irrefl 0 (omega arith)

    waited : (u : ℕ) → u ≢ v → Waits mid u → Waits marks u
    waited u ne W = let e = mid-there u ne in record { some = omega arith; few = omega arith }

    stacked : Stacked n mid tops
    stacked = record {
      marks-long = let h = S.stacked.marks-long in let e : length mid ≡ length marks = ap length em ∙ simp length-set in omega arith;
      below = λ u h. ⊎_elim (λ s. subst (λ z. z < n) (sym s) l) (λ ne. let e = mid-there u ne in S.stacked.below u (omega arith)) (same_or u v);
      room = let h = S.stacked.room in let e = tops-length in omega arith;
      few =
          let a = size-add (entered marks) (entered mid) v n l (le-ltb 0 (nat marks v) (omega arith)) (lt-ltb 0 (nat mid v) (let e = mid-here in omega arith)) (λ u ne. rw (mid-there u ne)) in
          let b = S.stacked.few in let c = tops-zero in omega arith;
      at = λ i a b. ⊎_elim
          (λ s. rw s (ap (nat mid) tops-at ∙ mid-here))
          (λ ne. let z = tops-zero in let h = S.stacked.at i a (omega arith) in
          ap (nat mid) (tops-other i a (omega arith)) ∙ mid-there (nat stack i) (other (nat stack i) (omega arith)) ∙ h) (same_or i p);
      back = λ u W. ⊎_elim
          (λ s. let e : nat mid u ≡ p = ap (nat mid) s ∙ mid-here in let z = tops-zero in (omega arith, ap (nat tops) e ∙ tops-at ∙ sym s))
          (λ ne. let (a, b) = S.stacked.back u (waited u ne W) in let e = mid-there u ne in let z = tops-zero in
          (omega arith, ap (nat tops) e ∙ tops-other (nat marks u) (omega arith) (omega arith) ∙ b)) (same_or u v);
    }

    pub enter-begun : Begun n dep v p marks mid tops
    enter-begun = record {
      few = few;
      below = l;
      some = omega arith;
      small = let r = enter-room in omega arith;
      unseen = unseen;
      stacked = stacked;
      height = tops-zero;
      at = mid-here;
      there = mid-there;
      older = λ u W. let h = (S.stacked.back u W).0 in omega arith;
      leads = λ u W. ⊎_elim (λ s. subst (λ z. Reaches dep z v) (sym s) here) (λ ne. L.each u (waited u ne W)) (same_or u v);
    }

    pub enter-state : WalkState n dep mid tops numbers
    enter-state = record {
      stacked = stacked;
      settled = settled-kept n dep marks mid numbers S.settled
          (λ u h. mid-there u (λ s. let e : nat mid u ≡ p = ap (nat mid) s ∙ mid-here in let r = enter-room in lt_irrefl 4096 (omega arith)))
          (λ u h. mid-there u (other u (omega arith)));
    }
