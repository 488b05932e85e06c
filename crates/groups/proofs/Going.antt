-- The links of a variable v on the stack, one by one: whatever waits leads to v, since what a visit leaves waiting leads to something that waited before it.
-- Assumes nothing.
use Prim.Native.Nat.{ℕ, min, ◌≤◌, ◌<◌}
use native.Mathlib.Nat.{lt_irrefl}
use native.Mathlib.Omega.{arith}
use mathlib.Core.List.Memᴰ
use mathlib.Core.List.{List, [], ◌∷◌, Memᴰ}
use mathlib.Core.Logic.{◌⊎◌, inl, inr, ⊎_elim, ◌≢◌}
use mathlib.Core.Path.{◌≡◌, refl, ap, sym, ◌∙◌, subst}
use borrow.Author.Tests.{eqb-true, eq-eqb, ne_eqb}
use Rattle.paper.specs.Lists.{nat, size}
use Rattle.groups.specs.Walk.{unentered, Reaches, here, on, WalkState, Leading, GroupVisit}
use Rattle.paper.proofs.Lists.{same_or}
use Rattle.paper.proofs.Count.{size-more}
use Rattle.groups.proofs.Asking.{low_or}
use Rattle.groups.specs.Stack.{Waits}
use Rattle.groups.proofs.Reach.{one_link, joins}
use Rattle.groups.proofs.Marking.{stacked-is}
use Rattle.groups.proofs.Entering.{Begun}

module _ (n : ℕ) (dep : ℕ → List ℕ) where
  -- the links in `rest` are still to be visited, mid are the marks where the loop began, and low is the least place met
  pub record Going (v p : ℕ) (rest : List ℕ) (low : ℕ) (mid marks stack numbers : List ℕ) : Type 0 where
    pub state : WalkState n dep marks stack numbers
    pub kept : (u : ℕ) → 0 < nat mid u → nat marks u ≡ nat mid u
    pub new : (u : ℕ) → nat mid u ≡ 0 → 0 < nat marks u → Reaches dep v u
    pub left : (u : ℕ) → nat mid u ≡ 0 → Waits marks u → Reaches dep u v × ((i : ℕ) → Memᴰ i (dep u) → low ≤ nat marks i)
    pub rests : (w : ℕ) → Memᴰ w rest → Memᴰ w (dep v)
    pub passed : (w : ℕ) → Memᴰ w (dep v) → (low ≤ nat marks w) ⊎ Memᴰ w rest
    pub some : 0 < low
    pub top : low ≤ p
    pub hit : (w : ℕ) × (nat mid w ≡ low) × Reaches dep v w

  -- v was entered before: nothing changes
  pub visited-known : (v r : ℕ) (marks stack numbers : List ℕ) → WalkState n dep marks stack numbers → r ≡ nat marks v → 0 < r → GroupVisit n dep v marks marks stack numbers r
  visited-known v r marks stack numbers S e h = record {
    state = S;
    kept = λ u q. refl;
    some = h;
    least = omega arith;
    new = λ u z q. absurd (lt_irrefl 0 (omega arith));
    left = λ u z W. absurd (lt_irrefl 0 (let a = W.some in omega arith));
    hit = λ q. (v, sym e, here);
  }

  module _ (v p : ℕ) (before mid tops : List ℕ) (B : Begun n dep v p before mid tops) where
    pub going_start : (rest numbers : List ℕ) (low : ℕ) → WalkState n dep mid tops numbers → rest ≡ dep v → low ≡ p → Going v p rest low mid mid tops numbers
    going_start rest numbers low S e q = record {
      state = S;
      kept = λ u h. refl;
      new = λ u z h. absurd (lt_irrefl 0 (omega arith));
      left = λ u z W. absurd (lt_irrefl 0 (let a = W.some in omega arith));
      rests = λ w m. subst (Memᴰ w) e m;
      passed = λ w m. inr (subst (Memᴰ w) (sym e) m);
      some = omega arith;
      top = omega arith;
      hit = (v, B.at ∙ sym q, here);
    }

    module _ (rest : List ℕ) (low : ℕ) (marks stack numbers : List ℕ) (G : Going v p rest low mid marks stack numbers) where
      -- whatever waits leads to v
      pub going-leads : (u : ℕ) → Waits marks u → Reaches dep u v
      going-leads u W = ⊎_elim (λ z. (G.left u z W).0)
          (λ ne. let e = G.kept u (omega arith) in B.leads u (record { some = omega arith; few = (let a = W.few in omega arith) })) (same_or (nat mid u) 0)

      -- what has a place up to v's had it where the loop began
      pub going-old : (u : ℕ) → 0 < nat marks u → nat marks u ≤ p → nat mid u ≡ nat marks u
      going-old u h l =
          let a = B.stacked.at (nat marks u) h (let z = B.height in omega arith) in
          let b : nat marks (nat tops (nat marks u)) ≡ nat marks u = G.kept (nat tops (nat marks u)) (omega arith) ∙ a in
          let w = (G.state.stacked.back u (record { some = h; few = (let z = B.small in let f = B.few in omega arith) })).0 in
          let x = stacked-is n marks stack G.state.stacked B.few (nat tops (nat marks u)) (nat marks u) h w b in
          let y = stacked-is n marks stack G.state.stacked B.few u (nat marks u) h w refl in
          ap (nat mid) (y ∙ sym x) ∙ a

      -- v stands on the stack
      pub going-at : nat marks v ≡ p
      going-at = let a = B.at in let s = B.some in G.kept v (omega arith) ∙ a

      -- fewer are fresh
      pub going_less : size (unentered marks) n < size (unentered before) n
      going_less =
          let a = going-at in let s = B.some in
          size-more (unentered marks) (unentered before) v n B.below (ne_eqb (nat marks v) 0 (λ z. lt_irrefl 0 (omega arith))) (eq-eqb (nat before v) 0 B.unseen)
          (λ u e. eq-eqb (nat before u) 0 (go u (eqb-true (nat marks u) 0 e) (same_or u v) (same_or (nat before u) 0)))
        where
          go : (u : ℕ) → nat marks u ≡ 0 → (u ≡ v) ⊎ (u ≢ v) → (nat before u ≡ 0) ⊎ (nat before u ≢ 0) → nat before u ≡ 0
          go u z s (inl e) = e
          go u z (inl s) (inr ne) = ap (nat before) s ∙ B.unseen
          go u z (inr s) (inr ne) = let a = B.there u s in let b = G.kept u (omega arith) in omega arith

      -- what had been entered is as it was
      pub going-kept : (u : ℕ) → 0 < nat before u → nat marks u ≡ nat before u
      going-kept u h =
          let a = B.there u (λ s. let e : nat before u ≡ nat before v = ap (nat before) s in let z = B.unseen in lt_irrefl 0 (omega arith)) in
          G.kept u (omega arith) ∙ a

      -- v leads to what was entered since
      pub going-new : (u : ℕ) → nat before u ≡ 0 → 0 < nat marks u → Reaches dep v u
      going-new u z h = ⊎_elim (λ s. subst (Reaches dep v) (sym s) here) (λ ne. let a = B.there u ne in G.new u (a ∙ z) h) (same_or u v)

      -- the next link
      module _ (w : ℕ) (more : List ℕ) (e : rest ≡ w ∷ more) where
        pub going-link : Memᴰ w (dep v)
        going-link = G.rests w (subst (Memᴰ w) (sym e) (Memᴰ.head refl))

        pub going_next : Leading dep w marks
        going_next = record { each = λ u W. joins (going-leads u W) (one_link going-link) }

        pub going_step : (r low' : ℕ) (marks' stack' numbers' : List ℕ) → GroupVisit n dep w marks marks' stack' numbers' r → low' ≡ min low r → Going v p more low' mid marks' stack' numbers'
        going_step r low' marks' stack' numbers' W q = record {
          state = W.state;
          kept = λ u h. let a = G.kept u h in W.kept u (omega arith) ∙ a;
          new = λ u z h. ⊎_elim (λ y. on going-link (W.new u y h)) (λ ne. G.new u z (omega arith)) (same_or (nat marks u) 0);
          left = λ u z Y. ⊎_elim (λ y. fell u y Y) (λ ne. stood u z ne Y) (same_or (nat marks u) 0);
          rests = λ u m. G.rests u (subst (Memᴰ u) (sym e) (Memᴰ.tail m));
          passed = λ u m. ⊎_elim (λ h. inl (lower u h)) (λ m'. ⊎_elim (λ s. inl (met u s)) inr (Memᴰ.cases_cons (subst (Memᴰ u) e m'))) (G.passed u m);
          some = let a = G.some in let b = W.some in omega arith;
          top = let a = G.top in omega arith;
          hit = go (low_or r low);
        }
          where
            -- the marks that links met stay, and low sinks
            lower : (i : ℕ) → low ≤ nat marks i → low' ≤ nat marks' i
            lower i h = let a = G.some in let b = W.kept i (omega arith) in omega arith

            met : (u : ℕ) → u ≡ w → low' ≤ nat marks' u
            met u s = let a = W.least in let b : nat marks' u ≡ nat marks' w = ap (nat marks') s in omega arith

            fell : (u : ℕ) → nat marks u ≡ 0 → Waits marks' u → Reaches dep u v × ((i : ℕ) → Memᴰ i (dep u) → low' ≤ nat marks' i)
            fell u y Y =
                let (few, up, far) = W.left u y Y in
                let (x, at, down) = W.hit few in
                let s = W.some in
                (joins up (joins down (going-leads x (record { some = omega arith; few = omega arith }))), λ i m. let a = far i m in omega arith)

            stood : (u : ℕ) → nat mid u ≡ 0 → nat marks u ≢ 0 → Waits marks' u → Reaches dep u v × ((i : ℕ) → Memᴰ i (dep u) → low' ≤ nat marks' i)
            stood u z ne Y =
                let k = W.kept u (omega arith) in
                let (up, far) = G.left u z (record { some = omega arith; few = (let a = Y.few in omega arith) }) in
                (up, λ i m. lower i (far i m))

            go : (r < low) ⊎ (low ≤ r) → (x : ℕ) × (nat mid x ≡ low') × Reaches dep v x
            go (inl h) =
                let t = G.top in let sm = B.small in let f = B.few in let s = W.some in
                let (x, at, down) = W.hit (omega arith) in
                let o = going-old x (omega arith) (omega arith) in
                (x, omega arith, on going-link down)
            go (inr h) = let (x, at, down) = G.hit in (x, omega arith, down)

      -- all links have been visited, and one leads below v: v waits
      pub going-back : rest ≡ [] → low < p → GroupVisit n dep v before marks stack numbers low
      going-back e h = record {
        state = G.state;
        kept = going-kept;
        some = G.some;
        least = let a = going-at in omega arith;
        new = going-new;
        left = λ u z W. let q = held u z W (same_or u v) in (small, q.0, q.1);
        hit = λ q.
            let (w, at, down) = G.hit in
            (w, (sym (B.there w (λ s. let x : nat mid w ≡ p = ap (nat mid) s ∙ B.at in lt_irrefl p (omega arith))) ∙ at), down);
      }
        where
          small : low ≤ 4096
          small = let a = B.small in let b = B.few in omega arith

          far : (i : ℕ) → Memᴰ i (dep v) → low ≤ nat marks i
          far i m = ⊎_elim (λ q. q) (λ q. absurd (Memᴰ.not-nil (subst (Memᴰ i) e q))) (G.passed i m)

          held : (u : ℕ) → nat before u ≡ 0 → Waits marks u → (u ≡ v) ⊎ (u ≢ v) → Reaches dep u v × ((i : ℕ) → Memᴰ i (dep u) → low ≤ nat marks i)
          held u z W (inl s) = (subst (λ x. Reaches dep x v) (sym s) here, λ i m. far i (subst (λ x. Memᴰ i (dep x)) s m))
          held u z W (inr ne) = G.left u (B.there u ne ∙ z) W
