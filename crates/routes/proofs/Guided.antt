-- Routes 2 and 3 as asking over the row of work that marks give: its values are the route's new ones, and what asking flags is what is worked
-- out and needed, since both are the least that holds the asked and goes on to what is looked at. Assumes nothing.
use Prim.Native.Nat.{ℕ, ◌+◌, ◌≤◌, ◌<◌}
use native.Mathlib.Omega.{arith}
use mathlib.Core.Bool.{Bool, true, false, cond, ◌&&◌}
use mathlib.Core.List.{List, Memᴰ}
use mathlib.Core.Logic.{◌⊎◌, inl, inr}
use mathlib.Core.Path.{◌≡◌, refl, ap, sym, ◌∙◌, subst}
use lib.Dec.{eqb, ltb}
use lib.IntN.{ℤ, pos}
use lib.ListN.{length, get_or, drop, replicate, length-drop, get_or-replicate}
use lib.Seq.{get_or-take, get_or-drop, ext_get_or}
use borrow.Author.Tests.{ltb-true, lt-ltb, eq-eqb}
use Rattle.paper.specs.Lists.{nat}
use Rattle.paper.specs.Net.{Values, Route, output-to-input, mark-guided, marked, live, works, needed}
use Rattle.paper.specs.Tables.{Tables, net, is_made, form_of, asks_of, values_in}
use Rattle.paper.proofs.Lists.{clash}
use Rattle.paper.proofs.Buffers.{over-of}
use Rattle.paper.proofs.Sizes.{sized-facts}
use Rattle.paper.proofs.Accept.{made-below, inputs-below}
use Rattle.paper.proofs.Lawful.{lawful}
use Rattle.paper.proofs.Fresh.{form-same, afresh-unique}
use Rattle.paper.proofs.Routes.{new-equation}
use Rattle.paper.proofs.Needed.{needed-least, needed-asked, needed-closed}
use Rattle.routes.specs.Reach.{Follows, Either}
use Rattle.routes.specs.Rows.{Ended, values_of}
use Rattle.routes.specs.Routed.{Begun, new_of, evaluated_of, Routed}
use Rattle.routes.specs.Work.{works_out, worked_out, asks_out, AllAsked}
use Rattle.routes.specs.Plan.{Guides}
use Rattle.routes.proofs.Asks.{lawful-work}
use Rattle.routes.proofs.Planned.{rows_of, does, work, left, does-below, works-is, form-is, asks-is, workable}

-- ── marks that guide a route ──
-- route 2 works every made variable out
pub guides-all : (t : Tables) → Ended t → (stored trial : List ℤ) → Guides t output-to-input stored trial (replicate 4096 1)
guides-all t d stored trial = record {
  asks = λ asked v. refl;
  shows = λ v e.
      let h = made-below t d.sound v e in let k = (sized-facts t d.sound.sized).n-most in
      eq-eqb (nat (replicate 4096 1) v) 1 (get_or-replicate {A = ℕ} 4096 v 1 0 (omega arith));
}

-- route 3 those that are marked
pub guides-marked : (t : Tables) (stored trial : List ℤ) (marks : List ℕ) → ((v : ℕ) → nat marks v ≡ cond (marked (net t) (values_in t stored) (values_in t trial) t.n v) 1 0)
    → Guides t mark-guided stored trial marks
guides-marked t stored trial marks e = record {
  asks = λ asked v. refl;
  shows = λ v m. ap (λ k. eqb k 1) (e v) ∙ one (marked (net t) (values_in t stored) (values_in t trial) t.n v);
}
  where
    one : (b : Bool) → eqb (cond b 1 0) 1 ≡ b
    one true = refl
    one false = refl

-- ── asking by them ──
-- rows that hold the same from place n on
beyond : {A : Type 0} (n : ℕ) (l before : List A) (d : A) → length l ≡ length before → ((u : ℕ) → n ≤ u → get_or l u d ≡ get_or before u d) → drop n l ≡ drop n before
beyond n l before d long h =
    ext_get_or d (drop n l) (drop n before) (simp length-drop (omega arith)) (λ i k. get_or-drop n l i d ∙ h (n + i) (omega arith) ∙ sym (get_or-drop n before i d))

module _ (t : Tables) (d : Ended t) (marks : List ℕ) (route : Route) (stored trial : List ℤ) (flags asked : List ℕ) (b : Begun t stored trial flags) (g : Guides t route stored trial marks) where
  -- the new values, what the route works out, what is needed, and what it evaluates
  abbrev goal : Values
  goal = new_of t route stored trial asked

  abbrev working : ℕ → Bool
  working = works (net t) route (values_in t stored) (values_in t trial) t.n

  abbrev needs : ℕ → Bool
  needs = needed (net t) working goal asked t.n

  abbrev worked : Values
  worked = worked_out (rows_of t) (work t d marks) trial

  abbrev is_live : ℕ → Bool
  is_live = live (net t) route (values_in t stored) (values_in t trial) t.n goal

  working-is : (v : ℕ) → working v ≡ does t d marks v
  working-is v = go (is_made t v) refl
    where
      go : (m : Bool) → is_made t v ≡ m → (m && is_live v) ≡ (m && eqb (nat marks v) 1)
      go true e = sym (g.shows v e)
      go false e = refl

  -- ── the values that come out are the new ones ──
  new_is : (v : ℕ) → goal v ≡ cond (does t d marks v) (form_of t v goal) (values_in t trial v)
  new_is v =
      new-equation (net t) (lawful t) t.n d.chains route (values_in t stored) (values_in t trial) v ∙ go (is_made t v) refl (is_live v)
      ∙ ap (λ c. cond c (form_of t v goal) (values_in t trial v)) (working-is v)
    where
      go : (m : Bool) → is_made t v ≡ m → (l : Bool) → cond m (cond l (form_of t v goal) (values_in t stored v)) (values_in t trial v) ≡ cond (m && l) (form_of t v goal) (values_in t trial v)
      go true e true = refl
      go true e false = sym (b.made v e)
      go false e l = refl

  -- below n the new values, beyond it what stands in the trial row
  abbrev row : Values
  row v = cond (ltb v t.n) (goal v) (values_of trial v)

  in_row : (v : ℕ) → v < t.n → row v ≡ goal v
  in_row v h = ap (λ c. cond c (goal v) (values_of trial v)) (lt-ltb v t.n h)

  solves : (v : ℕ) → row v ≡ cond (works_out (rows_of t) (work t d marks) v) ((left t d marks).form v row) (values_of trial v)
  solves v = go (does t d marks v) refl (new_is v) ∙ ap (λ c. cond c ((left t d marks).form v row) (values_of trial v)) (sym (works-is t d marks v))
    where
      still : goal v ≡ values_in t trial v → (c : Bool) → ltb v t.n ≡ c → cond c (goal v) (values_of trial v) ≡ values_of trial v
      still e true h = e ∙ get_or-take t.n trial v (pos 0) (ltb-true v t.n h)
      still e false h = refl

      go : (c : Bool) → does t d marks v ≡ c → goal v ≡ cond c (form_of t v goal) (values_in t trial v) → row v ≡ cond c ((left t d marks).form v row) (values_of trial v)
      go true q e =
          in_row v (does-below t d marks v q) ∙ e ∙ form-same (net t) (lawful t) v goal row (λ i m. sym (in_row i (inputs-below t d.sound v i m)))
          ∙ sym (form-is t d marks v q row)
      go false q e = still e (ltb v t.n) refl

  worked-is : (v : ℕ) → v < t.n → worked v ≡ goal v
  unfolding worked_out
  worked-is v h =
      sym (afresh-unique (left t d marks) (lawful-work (rows_of t) (work t d marks)) (length (work t d marks)) (workable t d marks).chains (values_of trial) row solves v) ∙ in_row v h

  -- so a row looks at what it looks at over them
  asks-new : (v : ℕ) → does t d marks v ≡ true → asks_out (rows_of t) (work t d marks) trial v ≡ asks_of t v goal
  asks-new v e =
      asks-is t d marks v e worked
      ∙ (lawful t).asks-same v worked goal (λ i m. worked-is i (inputs-below t d.sound v i ((lawful t).asks-in v worked i m)))

  -- ── all have been asked ──
  module _ (trial' : List ℤ) (flags' : List ℕ) (a : AllAsked (rows_of t) (work t d marks) asked trial flags trial' flags') where
    follows : Follows (works_out (rows_of t) (work t d marks)) (asks_out (rows_of t) (work t d marks) trial) needs
    follows = record {
      on = λ u i e w m.
          let q = sym (works-is t d marks u) ∙ w in
          needed-closed (net t) working goal (lawful t) t.n d.chains asked u i e (working-is u ∙ q) (subst (Memᴰ i) (asks-new u q) m);
    }

    -- what is not as it was is worked out and needed
    either : (u : ℕ) → (nat flags' u ≡ nat flags u) ⊎ ((does t d marks u ≡ true) × (needs u ≡ true) × (nat flags' u ≡ 1))
    either u = go (a.reaching.only needs follows (needed-asked (net t) working goal (lawful t) t.n d.chains asked) u)
      where
        go : Either (works_out (rows_of t) (work t d marks)) (asks_out (rows_of t) (work t d marks) trial) needs flags flags' u
            → (nat flags' u ≡ nat flags u) ⊎ ((does t d marks u ≡ true) × (needs u ≡ true) × (nat flags' u ≡ 1))
        go (inl p) = inl p
        go (inr p) = inr (sym (works-is t d marks u) ∙ p.0, p.1, p.2)

    -- and what is worked out and needed is flagged
    flagged : (v : ℕ) → needs v ≡ true → does t d marks v ≡ true → nat flags' v ≡ 1
    flagged = needed-least (net t) working goal (λ u. does t d marks u ≡ true → nat flags' u ≡ 1)
        (λ u i p w m q. let e = sym (working-is u) ∙ w in a.reaching.closed.on u i (p e) (subst (Memᴰ i) (sym (asks-new u e)) m) (works-is t d marks i ∙ q))
        asked (λ u m q. met u (a.reaching.passed u m (works-is t d marks u ∙ q))) t.n
      where
        met : (u : ℕ) → (nat flags' u ≡ 1) ⊎ ⊥ → nat flags' u ≡ 1
        met u (inl h) = h
        met u (inr h) = absurd h

    abbrev evaluates : ℕ → Bool
    evaluates = evaluated_of t route stored trial asked

    evaluates-is : (v : ℕ) → evaluates v ≡ (does t d marks v && needs v)
    evaluates-is v = g.asks asked v ∙ ap (◌&& needs v) (working-is v)

    -- a variable is evaluated, with its new value and a flag, or all is as it was
    each : (v : ℕ) → v < t.n → (nat flags' v ≡ cond (evaluates v) 1 0) × (values_of trial' v ≡ cond (evaluates v) (goal v) (values_in t trial v))
    each v h = let (p, q) = go (does t d marks v) refl (needs v) refl (either v) in (p ∙ ap (λ c. cond c 1 0) (sym (evaluates-is v)), q ∙ ap (λ c. cond c (goal v) (values_in t trial v)) (sym (evaluates-is v)))
      where
        as-was : nat flags' v ≡ nat flags v → (nat flags' v ≡ 0) × (values_of trial' v ≡ values_in t trial v)
        as-was p = (p ∙ b.clear v h, a.still v p ∙ sym (get_or-take t.n trial v (pos 0) h))

        go : (w : Bool) → does t d marks v ≡ w → (n : Bool) → needs v ≡ n → (nat flags' v ≡ nat flags v) ⊎ ((does t d marks v ≡ true) × (needs v ≡ true) × (nat flags' v ≡ 1))
            → (nat flags' v ≡ cond (w && n) 1 0) × (values_of trial' v ≡ cond (w && n) (goal v) (values_in t trial v))
        go true e true f o = let k = flagged v f e in (k, a.holds.at v (λ z. k) ∙ worked-is v h)
        go true e false f (inl p) = as-was p
        go true e false f (inr p) = clash p.1 f
        go false e n f (inl p) = as-was p
        go false e n f (inr p) = clash p.0 e

    outside : (u : ℕ) → t.n ≤ u → nat flags' u ≡ nat flags u
    outside u h = go (either u)
      where
        go : (nat flags' u ≡ nat flags u) ⊎ ((does t d marks u ≡ true) × (needs u ≡ true) × (nat flags' u ≡ 1)) → nat flags' u ≡ nat flags u
        go (inl p) = p
        go (inr p) = absurd (let k = does-below t d marks u p.0 in omega arith)

    pub routed : Routed t route stored trial flags asked trial' flags'
    routed = record {
      values = over-of (λ v. cond (evaluates v) (goal v) (values_in t trial v)) t.n trial trial' (pos 0) a.long b.in-trial (λ v h. (each v h).1) (beyond t.n trial' trial (pos 0) a.long (λ u h. a.still u (outside u h)));
      flagged = over-of (λ v. cond (evaluates v) 1 0) t.n flags flags' 0 a.reaching.long b.in-flags (λ v h. (each v h).0) (beyond t.n flags' flags 0 a.reaching.long outside);
    }
