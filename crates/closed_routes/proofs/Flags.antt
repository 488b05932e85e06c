-- Over values that are the new ones, the variables with a changed input are those that route 1 evaluates; and what a walk from the asked ones has flagged
-- is what routes 2 and 3 work out and need, since both are the least that holds the asked and goes on to what is looked at. Assumes nothing.
use Prim.Native.Nat.{ℕ, ◌+◌, ◌≤◌, ◌<◌}
use native.Mathlib.Omega.{arith}
use mathlib.Core.Bool.{Bool, true, false, cond, not, ◌&&◌}
use mathlib.Core.List.Memᴰ
use mathlib.Core.List.{List, Memᴰ}
use mathlib.Core.Logic.{◌⊎◌, inl, inr}
use mathlib.Core.Path.{◌≡◌, refl, ap, ap₂, sym, ◌∙◌, subst}
use lib.Dec.{ltb}
use lib.IntN.{ℤ, pos}
use lib.ListN.{length, drop, length-drop}
use lib.Seq.{get_or-take, get_or-drop, ext_get_or}
use borrow.Author.Tests.{ltb-true}
use Rattle.integers.specs.Integers.{eq_z}
use Rattle.paper.specs.Lists.{any, all, nat, over}
use Rattle.paper.specs.Net.{Values, Route, input-to-output, differs, works, needed}
use Rattle.paper.specs.Tables.{Tables, net, is_made, inputs_of, asks_of, values_in}
use Rattle.paper.proofs.Lists.{clash, all_in, any_same}
use Rattle.paper.proofs.Buffers.{over-of, over-same}
use Rattle.paper.proofs.Sizes.{sized-facts}
use Rattle.paper.proofs.Accept.{made-below, inputs-below}
use Rattle.paper.proofs.Lawful.{lawful}
use Rattle.paper.proofs.Determined.{Determined, route-fresh}
use Rattle.paper.proofs.Needs.{determined-everywhere}
use Rattle.paper.proofs.Needed.{needed-least}
use Rattle.paper.proofs.Asked.{needed-asked, needed-closed}
use Rattle.routes.specs.Reach.{Closed, Follows, Either}
use Rattle.routes.specs.Rows.{values_of}
use Rattle.routes.specs.Routed.{new_of, evaluated_of}
use Rattle.routes.specs.Work.{works_out}
use Rattle.routes.proofs.Asks.{lawful-work}
use Rattle.closed_routes.specs.Looking.{looks_at, AllLooked}
use Rattle.closed_routes.specs.Whole.{whole_net}
use Rattle.closed_routes.specs.Following.{Steady, Renewed, Flagged}
use Rattle.closed_routes.proofs.Plans.{Plan, shape, does-below, works-is, asks-is, ins-is, ins-none}

-- ── the new values ──
module _ (t : Tables) (stored trial : List ℤ) (S : Steady t stored trial) where
  low : (v i : ℕ) → Memᴰ i (inputs_of t v) → i < t.n
  low = inputs-below t S.sound

  some : 0 < t.n
  some = let z = (sized-facts t S.sound.sized).n-some in omega arith

  pub everywhere : Determined (net t) (lawful t) t.n (values_in t trial)
  everywhere = determined-everywhere t (values_in t trial) low (made-below t S.sound) some S.determined

  module _ (values : List ℤ) (R : Renewed t stored trial values) where
    -- by every route
    pub new_is : (route : Route) (asked : List ℕ) (v : ℕ) → v < t.n → values_of values v ≡ new_of t route stored trial asked v
    new_is route asked v l =
        R.new v l ∙ sym (route-fresh (net t) (lawful t) t.n low (made-below t S.sound) some (values_in t trial) everywhere (values_in t stored) S.fresh route v)

    -- ── route 1 ──
    module _ (asked by flags flags' : List ℕ) (P : Plan t (is_made t) by) where
      abbrev sees : ℕ → Bool
      sees v = any (differs (values_of values) (values_of stored)) ((whole_net t.firsts t.counts t.vars by).ins v)

      sees-is : (v : ℕ) → sees v ≡ evaluated_of t input-to-output stored trial asked v
      sees-is v = go (is_made t v) refl
        where
          same : (i : ℕ) → Memᴰ i (inputs_of t v) → differs (values_of values) (values_of stored) i ≡ differs (new_of t input-to-output stored trial asked) (values_in t stored) i
          same i m = let l = low v i m in ap₂ (λ (a b : ℤ). not (eq_z a b)) (new_is input-to-output asked i l) (sym (get_or-take t.n stored i (pos 0) l))

          go : (b : Bool) → is_made t v ≡ b → sees v ≡ (b && any (differs (new_of t input-to-output stored trial asked) (values_in t stored)) (inputs_of t v))
          go true e =
              ap (any (differs (values_of values) (values_of stored))) (ins-is t S.sound (is_made t) by P v e)
              ∙ any_same (differs (values_of values) (values_of stored)) (differs (new_of t input-to-output stored trial asked) (values_in t stored)) (inputs_of t v) same
          go false e = ap (any (differs (values_of values) (values_of stored))) (ins-none t S.sound (is_made t) by P v e)

      pub changed-flagged : flags' ≡ over (length by) (λ v. cond (sees v) 1 0) flags → Flagged t stored trial input-to-output asked flags flags'
      changed-flagged e = record {
        are = e ∙ ap (λ n. over n (λ v. cond (sees v) 1 0) flags) P.long
            ∙ over-same (λ v. cond (sees v) 1 0) t.n flags (λ v. cond (evaluated_of t input-to-output stored trial asked v) 1 0) (λ v l. ap (λ b. cond b 1 0) (sees-is v));
      }

    -- ── routes 2 and 3 ──
    module _ (route : Route) (asked flags : List ℕ) (clear : (v : ℕ) → v < t.n → nat flags v ≡ 0) (room : t.n ≤ length flags)
        (does : ℕ → Bool) (work : List ℕ) (P : Plan t does work) where
      -- the new values, what the route works out, what is needed, and what it evaluates
      abbrev goal : Values
      goal = new_of t route stored trial asked

      abbrev working : ℕ → Bool
      working = works (net t) route (values_in t stored) (values_in t trial) t.n

      abbrev needs : ℕ → Bool
      needs = needed (net t) working goal asked t.n

      abbrev looks : ℕ → List ℕ
      looks = looks_at (shape t S.sound does work P) work values

      abbrev is_work : ℕ → Bool
      is_work = works_out (shape t S.sound does work P) work

      -- a row looks at what it looks at over the new values
      looks-new : (v : ℕ) → does v ≡ true → looks v ≡ asks_of t v goal
      looks-new v e =
          asks-is t S.sound does work P v e (values_of values)
          ∙ (lawful t).asks-same v (values_of values) goal (λ i m. new_is route asked i (low v i ((lawful t).asks-in v (values_of values) i m)))

      work-is : (v : ℕ) → is_work v ≡ does v
      work-is = works-is t S.sound does work P

      -- no flag is set where there is work
      pub clear-closed : Closed is_work looks flags
      clear-closed = record { on = λ a i h m w. go a i h m (does a) refl }
        where
          go : (a i : ℕ) → nat flags a ≡ 1 → Memᴰ i (looks a) → (b : Bool) → does a ≡ b → nat flags i ≡ 1
          go a i h m true q = absurd (let z = clear a (does-below t S.sound does work P a q) in omega arith)
          go a i h m false q =
              let L = lawful-work (shape t S.sound does work P) work in
              absurd (Memᴰ.not-nil (subst (Memᴰ i) (L.bare a (work-is a ∙ q)) (L.asks-in a (values_of values) i m)))

      module _ (within : all (λ v. ltb v t.n) asked ≡ true) (is : (v : ℕ) → does v ≡ working v) (evaluates : (v : ℕ) → evaluated_of t route stored trial asked v ≡ (working v && needs v))
          (flags' : List ℕ) (a : AllLooked (shape t S.sound does work P) work values asked flags flags') where
        inside : (v : ℕ) → Memᴰ v asked → v < t.n
        inside v m = ltb-true v t.n (all_in (λ u. ltb u t.n) asked within m)

        follows : Follows is_work looks needs
        follows = record {
          on = λ u i e w m.
              let q = sym (work-is u) ∙ w in
              needed-closed (net t) (lawful t) t.n low working goal asked inside u i e (sym (is u) ∙ q) (subst (Memᴰ i) (looks-new u q) m);
        }

        -- what is not as it was is worked out and needed
        either : (u : ℕ) → (nat flags' u ≡ nat flags u) ⊎ ((does u ≡ true) × (needs u ≡ true) × (nat flags' u ≡ 1))
        either u = go (a.only needs follows (needed-asked (net t) (lawful t) t.n low working goal asked inside) u)
          where
            go : Either is_work looks needs flags flags' u → (nat flags' u ≡ nat flags u) ⊎ ((does u ≡ true) × (needs u ≡ true) × (nat flags' u ≡ 1))
            go (inl p) = inl p
            go (inr p) = inr (sym (work-is u) ∙ p.0, p.1, p.2)

        -- and what is worked out and needed is flagged
        flagged : (v : ℕ) → needs v ≡ true → does v ≡ true → nat flags' v ≡ 1
        flagged = needed-least (net t) working goal (λ u. does u ≡ true → nat flags' u ≡ 1)
            (λ u i p w m q. let e = is u ∙ w in a.closed.on u i (p e) (subst (Memᴰ i) (sym (looks-new u e)) m) (work-is i ∙ q))
            asked (λ u m q. met u (a.passed u m (work-is u ∙ q))) t.n
          where
            met : (u : ℕ) → (nat flags' u ≡ 1) ⊎ ⊥ → nat flags' u ≡ 1
            met u (inl h) = h
            met u (inr h) = absurd h

        each : (v : ℕ) → v < t.n → nat flags' v ≡ cond (evaluated_of t route stored trial asked v) 1 0
        each v h = go (does v) refl (needs v) refl (either v) ∙ ap (λ c. cond c 1 0) (ap (◌&& needs v) (is v) ∙ sym (evaluates v))
          where
            go : (w : Bool) → does v ≡ w → (n : Bool) → needs v ≡ n → (nat flags' v ≡ nat flags v) ⊎ ((does v ≡ true) × (needs v ≡ true) × (nat flags' v ≡ 1))
                → nat flags' v ≡ cond (w && n) 1 0
            go true e true f o = flagged v f e
            go true e false f (inl p) = p ∙ clear v h
            go true e false f (inr p) = clash p.1 f
            go false e n f (inl p) = p ∙ clear v h
            go false e n f (inr p) = clash p.0 e

        outside : (u : ℕ) → t.n ≤ u → nat flags' u ≡ nat flags u
        outside u h = go (either u)
          where
            go : (nat flags' u ≡ nat flags u) ⊎ ((does u ≡ true) × (needs u ≡ true) × (nat flags' u ≡ 1)) → nat flags' u ≡ nat flags u
            go (inl p) = p
            go (inr p) = absurd (let k = does-below t S.sound does work P u p.0 in omega arith)

        back : drop t.n flags' ≡ drop t.n flags
        back = ext_get_or 0 (drop t.n flags') (drop t.n flags) (let l = a.long in simp length-drop (omega arith))
            (λ i k. get_or-drop t.n flags' i 0 ∙ outside (t.n + i) (omega arith) ∙ sym (get_or-drop t.n flags i 0))

        pub looked-flagged : Flagged t stored trial route asked flags flags'
        looked-flagged = record { are = over-of (λ v. cond (evaluated_of t route stored trial asked v) 1 0) t.n flags flags' 0 a.long room each back }
