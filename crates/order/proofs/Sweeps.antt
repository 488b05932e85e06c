-- After every variable's visit: what has ended has its number, and what waits depends on one that waits, so that it can have none. Assumes nothing.
use Prim.Native.Nat.{ℕ, zero, suc, ◌+◌, ◌≤◌, ◌<◌}
use native.Mathlib.Nat.{not-suc-le-zero, lt_irrefl}
use native.Mathlib.Omega.{arith}
use mathlib.Core.Bool.{Bool, true, false, cond}
use mathlib.Core.List.Memᴰ
use mathlib.Core.List.{List, [], ◌∷◌, map, Memᴰ}
use mathlib.Core.Logic.{⊎_elim}
use mathlib.Core.Path.{◌≡◌, refl, ap, sym, ◌∙◌, subst}
use lib.Dec.{eqb, leb, ltb}
use lib.ListN.{length, replicate, length-replicate, get_or-replicate, get_or-eq_default}
use borrow.Author.Tests.{leb-true, leb-false, le-leb, ltb-true, ltb-false, eqb-true}
use Rattle.std.specs.Prelude.{Option}
use Rattle.integers.specs.Below.{if_below}
use Rattle.integers.proofs.Below.{none-below}
use Rattle.paper.specs.Lists.{all, greatest, nat, over, size, first_fail}
use Rattle.paper.specs.Net.{runs, able, Depends, direct, through}
use Rattle.paper.proofs.Straight.{numbering, number}
use Rattle.paper.specs.Tables.{Tables, part, row_of, is_made, inputs_of, net, ends}
use Rattle.paper.proofs.Lists.{clash, all_in}
use Rattle.paper.proofs.Buffers.{over-length, over-at}
use Rattle.paper.proofs.Count.{size-zero}
use Rattle.paper.proofs.Least.{first_fail-before}
use Rattle.paper.proofs.Scan.{first_fail-same, part_length}
use Rattle.paper.proofs.Lawful.{lawful}
use Rattle.paper.proofs.Numbers.{Numbers, number-right, numbers-unique}
use Rattle.paper.proofs.Circle.{numbers-end, has-able}
use Rattle.tables.specs.Makers.{Makers}
use Rattle.order.specs.Formed.{Formed}
use Rattle.order.specs.Numbering.{Clean, above, search_state, ended, number_in, NumberVisit, NumberedBelow, NumbersFound}
use Rattle.order.proofs.Parted.{over-out, search-none}

-- a new row is clean
pub clean-new : (n k : ℕ) → n ≤ k → Clean n (replicate k 0)
clean-new n k h = record { long = let e = length-replicate {A = ℕ} k 0 in omega arith; at = λ i. go i (ltb i k) refl }
  where
    go : (i : ℕ) (b : Bool) → ltb i k ≡ b → nat (replicate k 0) i ≡ 0
    go i true e = get_or-replicate {A = ℕ} k i 0 0 (ltb-true i k e)
    go i false e = get_or-eq_default (replicate k 0) 0 (let l = length-replicate {A = ℕ} k 0 in let q = ltb-false i k e in omega arith)

-- ── the loop over all variables ──
module _ (n : ℕ) (dep : ℕ → List ℕ) where
  pub swept_step : (v r : ℕ) (state after : List ℕ) → NumberedBelow n dep v state → NumberVisit n dep v state after r → NumberedBelow n dep (v + 1) after
  swept_step v r state after S W = record {
    right = W.right;
    begun = λ u l. go u l (ltb u v) refl;
    held = λ u e. ⊎_elim (λ q. let (i, m, h) = S.held u q in (i, m, W.kept i (omega arith) ∙ h)) (λ q. q.1) (W.stuck u e);
  }
    where
      go : (u : ℕ) → u < v + 1 → (b : Bool) → ltb u v ≡ b → 0 < nat after u
      go u l true e = let b = S.begun u (ltb-true u v e) in let k = W.kept u b in omega arith
      go u l false e = let x = ltb-false u v e in let s : v ≡ u = omega arith in subst (λ z. 0 < nat after z) s (rw (← W.is) W.begun)

-- ── before the loop: search variables have ended, and no other visit has begun ──
module _ (t : Tables) (F : Formed t) (by : List ℕ) (M : Makers t by) (zeros : List ℕ) (C : Clean t.n zeros) where
  abbrev begun : List ℕ
  begun = over t.n (λ v. search_state (nat by v)) zeros

  -- only a search variable has a state
  some : (u : ℕ) → 0 < nat begun u → (u < t.n) × (nat by u ≡ 0)
  some u h = go (ltb u t.n) refl
    where
      go : (b : Bool) → ltb u t.n ≡ b → (u < t.n) × (nat by u ≡ 0)
      go true e = let l = ltb-true u t.n e in let at = over-at (λ v. search_state (nat by v)) t.n zeros u 0 l in (l, which (eqb (nat by u) 0) refl at)
        where
          which : (b : Bool) → eqb (nat by u) 0 ≡ b → nat begun u ≡ cond b 2 0 → nat by u ≡ 0
          which true e at = eqb-true (nat by u) 0 e
          which false e at = absurd (lt_irrefl 0 (omega arith))
      go false e = absurd (lt_irrefl 0 (let q = over-out (λ v. search_state (nat by v)) t.n zeros u 0 (ltb-false u t.n e) in let z = C.at u in omega arith))

  two : (u : ℕ) → 0 < nat begun u → nat begun u ≡ 2
  two u h = let (l, e) = some u h in over-at (λ v. search_state (nat by v)) t.n zeros u 0 l ∙ rw e

  none : (u : ℕ) → 0 < nat begun u → inputs_of t u ≡ []
  none u h = let (l, e) = some u h in search-none t F by M u l e

  pub swept-start : NumberedBelow t.n (inputs_of t) 0 begun
  swept-start = record {
    right = record {
      long = let e = over-length (λ v. search_state (nat by v)) t.n zeros C.long in let h = C.long in omega arith;
      number = λ u h. two u (omega arith) ∙ sym (rw (none u (omega arith)));
      inputs = λ u h i m. absurd (Memᴰ.not-nil (subst (Memᴰ i) (none u (omega arith)) m));
      small = λ u h. let e = two u (omega arith) in let k = counted u h (size (ended begun) t.n) refl in omega arith;
    };
    begun = λ u l. absurd (not-suc-le-zero l);
    held = λ u e. let q = two u (omega arith) in absurd (lt_irrefl 0 (omega arith));
  }
    where
      counted : (u : ℕ) → 2 ≤ nat begun u → (k : ℕ) → size (ended begun) t.n ≡ k → 0 < k
      counted u h zero e = clash (le-leb 2 (nat begun u) h) (size-zero (ended begun) t.n e u (some u (omega arith)).0)
      counted u h (suc k) e = omega arith

-- ── the paper's sentence, where a made variable has inputs ──
above-greatest : (f : ℕ → ℕ) (xs : List ℕ) → 1 ≤ length xs → suc (greatest (map f xs)) ≡ above f xs
above-greatest f [] h = absurd (not-suc-le-zero h)
above-greatest f (x ∷ []) h = omega arith
above-greatest f (x ∷ y ∷ ys) h = let i = above-greatest f (y ∷ ys) (omega arith) in omega arith

pub numbering-above : (t : Tables) → Formed t → (f : ℕ → ℕ) (v : ℕ) → numbering (net t) f v ≡ above f (inputs_of t v)
numbering-above t F f v = go (is_made t v) refl
  where
    go : (b : Bool) → is_made t v ≡ b → cond b (suc (greatest (map f (cond b (part t (row_of t v) t.vars) [])))) 0 ≡ above f (cond b (part t (row_of t v) t.vars) [])
    go true e =
        let l = ltb-true (row_of t v) t.m e in
        let long = part_length t.vars (nat t.firsts (row_of t v)) (nat t.counts (row_of t v)) (F.row_inside (row_of t v) l) in
        above-greatest f (part t (row_of t v) t.vars) (let some = F.row_reads (row_of t v) l in omega arith)
    go false e = refl

-- ── what the states then say ──
module _ (t : Tables) (F : Formed t) (state : List ℕ) (S : NumberedBelow t.n (inputs_of t) t.n state) where
  meets : (u : ℕ) → 2 ≤ nat state u → number_in state u ≡ numbering (net t) (number_in state) u
  meets u h = let q = S.right.number u h in let e = numbering-above t F (number_in state) u in omega arith

  down : {u w : ℕ} → Depends (inputs_of t) u w → 2 ≤ nat state u → 2 ≤ nat state w
  down (direct {v} {w} m) h = S.right.inputs v h w m
  down (through {v} {i} m d) h = down d (S.right.inputs v h i m)

  waits-unable : (k u : ℕ) → nat state u ≡ 1 → able (inputs_of t) k u ≡ false
  unfolding runs
  waits-unable zero u e = refl
  waits-unable (suc k) u e = let (i, m, h) = S.held u e in go (all (able (inputs_of t) k) (inputs_of t u)) refl m (waits-unable k i h)
    where
      go : (b : Bool) → all (able (inputs_of t) k) (inputs_of t u) ≡ b → {i : ℕ} → Memᴰ i (inputs_of t u) → able (inputs_of t) k i ≡ false → b ≡ false
      go true q m fails = clash (all_in (able (inputs_of t) k) (inputs_of t u) q m) fails
      go false q m fails = refl

  -- the chains from a variable end exactly if its visit has ended
  ended-ends : (u : ℕ) → u < t.n → ended state u ≡ ends t u
  ended-ends u l = go (ended state u) refl
    where
      go : (b : Bool) → ended state u ≡ b → b ≡ ends t u
      go true e =
          let h = leb-true 2 (nat state u) e in
          sym (has-able (net t) (lawful t) t.n F.inputs-below u l (number_in state, record { here = meets u h; further = λ w d. meets w (down d h) }))
      go false e = let h = leb-false 2 (nat state u) e in let b = S.begun u l in sym (waits-unable t.n u (omega arith))

  -- all have ended: then these are the numbers
  module _ (all-ended : (v : ℕ) → v < t.n → ended state v ≡ true) where
    meets-all : Numbers (net t) (number_in state)
    meets-all w = go (leb 2 (nat state w)) refl
      where
        none : (b : Bool) → is_made t w ≡ b → nat state w < 2 → 0 ≡ cond b (suc (greatest (map (number_in state) (inputs_of t w)))) 0
        none true e h = let k = leb-true 2 (nat state w) (all-ended w (F.made-below w e)) in absurd (lt_irrefl 1 (omega arith))
        none false e h = refl

        go : (b : Bool) → leb 2 (nat state w) ≡ b → number_in state w ≡ numbering (net t) (number_in state) w
        go true e = meets w (leb-true 2 (nat state w) e)
        go false e = let h = leb-false 2 (nat state w) e in (let z : number_in state w ≡ 0 = omega arith in z) ∙ none (is_made t w) refl h

    numbers-are : (v : ℕ) → number_in state v ≡ number (net t) t.n v
    numbers-are v =
        let chain = numbers-end (net t) (lawful t) t.n F.inputs-below F.made-below F.some (number_in state) meets-all in
        numbers-unique (net t) (lawful t) t.n chain (number_in state) (number (net t) t.n) meets-all (number-right (net t) (lawful t) t.n chain) v

  pub swept-found : (r : Option ℕ) → r ≡ if_below t.n (first_fail (ended state) t.n) → NumbersFound t state r
  swept-found r e = record {
    least = e ∙ ap (if_below t.n) (first_fail-same (ended state) (ends t) t.n ended-ends);
    which = λ v l. sym (ended-ends v l);
    numbered = λ h.
        let low = none-below t.n (first_fail (ended state) t.n) (sym h ∙ e) in
        record { few = F.few; at = λ v l. let q = numbers-are (past low) v in let k = leb-true 2 (nat state v) (past low v l) in omega arith };
  }
    where
      past : t.n ≤ first_fail (ended state) t.n → (v : ℕ) → v < t.n → ended state v ≡ true
      past h v l = first_fail-before (ended state) t.n v (omega arith)
