-- After every variable's visit nothing waits: what a visit leaves waiting leads to something that waited before it. So all groups are closed, the marks say which
-- variables are of one group, and the numbers are right. Assumes nothing.
use Prim.Native.Nat.{ℕ, zero, suc, ◌+◌, ◌-◌, ◌≤◌, ◌<◌}
use native.Mathlib.Nat.{not-suc-le-zero, lt_irrefl}
use native.Mathlib.Omega.{arith}
use mathlib.Core.Bool.{Bool, true, false, cond}
use mathlib.Core.List.{List, [], ◌∷◌, map, Memᴰ}
use mathlib.Core.Logic.{inl, inr, ⊎_elim, ◌≢◌}
use mathlib.Core.Path.{◌≡◌, refl, sym, ◌∙◌, subst}
use lib.Dec.{eqb}
use lib.ListN.{length}
use borrow.Author.Tests.{eqb-true, eqb-false, eq-eqb, ne_eqb}
use Rattle.paper.specs.Lists.{nat, greatest}
use Rattle.paper.proofs.Count.{size-le}
use Rattle.paper.proofs.Lists.{clash, same_or}
use Rattle.paper.specs.Chains.{grouped, outside}
use Rattle.paper.proofs.Depends.{SameGroup, grouped-exactly}
use Rattle.paper.proofs.Outside.{outside-in, outside-has}
use Rattle.order.specs.Numbering.{Clean}
use Rattle.groups.specs.Groups.{number_over, Found}
use Rattle.groups.specs.Walk.{closed, Reaches, Settled, Leading, GroupVisit, EnteredBelow}
use Rattle.groups.proofs.Reach.{depends-or, here-or, reaches}
use Rattle.groups.proofs.Asking.{low_or, greatest-in, greatest-le}
use Rattle.groups.specs.Stack.{Waits}

module _ (n : ℕ) (dep : ℕ → List ℕ) where
  pub swept-start : (marks stack numbers : List ℕ) → Clean n marks → Clean (n + 1) stack → Clean n numbers → EnteredBelow n dep 0 marks stack numbers
  swept-start marks stack numbers M S N = record {
    state = record {
      stacked = record {
        marks-long = M.long;
        below = λ v h. absurd (lt_irrefl 0 (let z = M.at v in omega arith));
        room = let h = S.long in omega arith;
        few = let z = S.at 0 in omega arith;
        at = λ i a b. absurd (lt_irrefl 0 (let z = S.at 0 in omega arith));
        back = λ v W. absurd (none v W);
      };
      settled = record {
        long = N.long;
        links = λ v i h. absurd (unclosed v h);
        root = λ v r e. absurd (unclosed v (omega arith));
        same = λ v w h. absurd (unclosed v h);
        one = λ v w h. absurd (unclosed v h);
        shared = λ v w h. absurd (unclosed v h);
        leaf = λ v h. absurd (unclosed v h);
        linked = λ v i h. absurd (unclosed v h);
        lower = λ v i h. absurd (unclosed v h);
        hit = λ v h. absurd (unclosed v h);
        small = λ v h. absurd (unclosed v h);
      };
    };
    passed = λ u l. absurd (not-suc-le-zero l);
    none = none;
  }
    where
      none : (u : ℕ) → Waits marks u → ⊥
      none u W = let z = M.at u in let s = W.some in lt_irrefl 0 (omega arith)

      unclosed : (u : ℕ) → 4096 < nat marks u → ⊥
      unclosed u h = let z = M.at u in lt_irrefl 0 (omega arith)

  pub swept-leading : (v : ℕ) (marks stack numbers : List ℕ) → EnteredBelow n dep v marks stack numbers → Leading dep v marks
  swept-leading v marks stack numbers S = record { each = λ u W. absurd (S.none u W) }

  pub swept_step : (v r : ℕ) (marks stack numbers marks' stack' numbers' : List ℕ) → EnteredBelow n dep v marks stack numbers → GroupVisit n dep v marks marks' stack' numbers' r
      → EnteredBelow n dep (v + 1) marks' stack' numbers'
  swept_step v r marks stack numbers marks' stack' numbers' S W = record {
    state = W.state;
    passed = λ u l. ⊎_elim (λ s. let a = W.least in let b = W.some in subst (λ z. 0 < nat marks' z) (sym s) (omega arith))
        (λ ne. let a = S.passed u (omega arith) in let k = W.kept u a in omega arith) (same_or u v);
    none = λ u Y. ⊎_elim
        (λ z. let few = (W.left u z Y).0 in let (w, e, d) = W.hit few in let s = W.some in S.none w (record { some = omega arith; few = omega arith }))
        (λ ne. let k = W.kept u (omega arith) in let f = Y.few in S.none u (record { some = omega arith; few = omega arith })) (same_or (nat marks u) 0);
  }

empty : (xs : List ℕ) → length xs ≡ 0 → xs ≡ []
empty [] e = refl
empty (x ∷ xs) e = absurd (lt_irrefl 0 (omega arith))

filled : (xs : List ℕ) → length xs ≢ 0 → (i : ℕ) × Memᴰ i xs
filled [] ne = absurd (ne refl)
filled (x ∷ xs) ne = (x, Memᴰ.head refl)

module _ (n : ℕ) (dep : ℕ → List ℕ) (below : (v i : ℕ) → Memᴰ i (dep v) → i < n) (marks stack numbers : List ℕ) (S : EnteredBelow n dep n marks stack numbers) where
  abbrev D : Settled n dep marks numbers
  D = S.state.settled

  all : (v : ℕ) → v < n → 4096 < nat marks v
  all v l = ⊎_elim (λ h. h) (λ h. absurd (S.none v (record { some = S.passed v l; few = h }))) (low_or 4096 (nat marks v))

  same : (v w : ℕ) → v < n → w < n → eqb (nat marks v) (nat marks w) ≡ grouped dep n v w
  same v w a b =
      grouped-exactly dep n below (eqb (nat marks v) (nat marks w)) v w
      (λ e. let q = eqb-true (nat marks v) (nat marks w) e in both (D.one v w (all v a) q) (D.one w v (all w b) (sym q)))
      (λ s. eq-eqb (nat marks v) (nat marks w) (D.same v w (all v a) (there s) (back s)))
    where
      both : Reaches dep v w → Reaches dep w v → SameGroup dep v w
      both p q = ⊎_elim inl (λ d. ⊎_elim (λ e. inl (sym e)) (λ c. inr (d, c)) (depends-or q)) (depends-or p)

      there : SameGroup dep v w → Reaches dep v w
      there (inl e) = here-or e
      there (inr d) = reaches d.0

      back : SameGroup dep v w → Reaches dep w v
      back (inl e) = here-or (sym e)
      back (inr d) = reaches d.1

  module _ (v : ℕ) (l : v < n) where
    abbrev top : ℕ
    top = greatest (map (nat numbers) (outside dep n v))

    -- a link out of the group has a lower number
    above : (i : ℕ) → Memᴰ i (outside dep n v) → nat numbers i < nat numbers v
    above i m =
        let h = outside-in dep n v i m in
        let e : nat marks v ≡ nat marks h.from = eqb-true (nat marks v) (nat marks h.from) (same v h.from l h.low ∙ h.here) in
        let a = D.shared v h.from (all v l) e in
        let b = D.lower h.from i (all h.from h.low) h.linked
        (λ z. clash (eq-eqb (nat marks v) (nat marks i) (e ∙ sym z)) (same v i l (below h.from i h.linked) ∙ h.out)) in
        omega arith

    -- and one of them is next below
    next : 1 < nat numbers v → nat numbers v ≤ suc top
    next h =
        let (w, i, e, m, ne, q) = D.hit v (all v l) h in
        let lw : w < n = (let a = all v l in S.state.stacked.below w (omega arith)) in
        let out = outside-has dep n v i (record {
          from = w;
          low = lw;
          here = sym (same v w l lw) ∙ eq-eqb (nat marks v) (nat marks w) (sym e);
          linked = m;
          out = sym (same v i l (below w i m)) ∙ ne_eqb (nat marks v) (nat marks i) (λ z. ne (sym z));
        }) in
        let a = greatest-in (nat numbers) (outside dep n v) out in
        omega arith

    number : nat numbers v ≡ number_over dep n numbers v
    number = go (eqb (length (dep v)) 0) refl
      where
        go : (b : Bool) → eqb (length (dep v)) 0 ≡ b → nat numbers v ≡ cond b zero (suc top)
        go true e = D.leaf v (all v l) (empty (dep v) (eqb-true (length (dep v)) 0 e))
        go false e =
            let (i, m) = filled (dep v) (eqb-false (length (dep v)) 0 e) in
            let some = D.linked v i (all v l) m in
            let a = greatest-le (nat numbers) (outside dep n v) (nat numbers v - 1) (λ j q. let h = above j q in omega arith) in
            ⊎_elim (λ h. let b = next h in omega arith) (λ h. omega arith) (low_or 1 (nat numbers v))

  pub swept-found : Found n dep marks numbers
  swept-found = record {
    marks-long = S.state.stacked.marks-long;
    numbers-long = D.long;
    same = same;
    number = number;
    small = λ v l. let a = D.small v (all v l) in let b = size-le (closed marks) n in omega arith;
  }
