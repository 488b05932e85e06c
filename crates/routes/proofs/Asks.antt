-- Asking over a row of work: a variable that has its value is left alone; a row asks its inputs first, so its formula is worked out over
-- their values, and where ELEMENT does not look any value will do. Assumes nothing.
use Prim.Native.Nat.{ℕ, zero, suc, ◌<◌}
use native.Mathlib.Omega.{arith}
use mathlib.Core.Bool.{Bool, true, false, not, cond, true≢false}
use mathlib.Core.List.{List, [], map, Memᴰ}
use mathlib.Core.Logic.{◌⊎◌, inl, inr}
use mathlib.Core.Path.{◌≡◌, refl, ap, sym, ◌∙◌, subst}
use lib.Dec.{eqb, ltb}
use lib.IntN.{ℤ, pos}
use lib.ListN.{length, get_or, set, length-set, get_or-eq_default}
use lib.Seq.{get_or-set_same, get_or-set_other}
use borrow.Author.Tests.{eqb-true, eqb-false, ltb-true, ltb-false, not-false}
use Rattle.paper.specs.Lists.{nat}
use Rattle.paper.specs.Formula.{formula, looked}
use Rattle.paper.specs.Net.{Values, afresh}
use Rattle.paper.proofs.Straight.{number}
use Rattle.paper.specs.Tables.{Tables, part}
use Rattle.paper.proofs.Lists.{clash, all_in}
use Rattle.paper.proofs.Lawful.{Lawful, looked-in, formula-same, looked-same}
use Rattle.paper.proofs.Numbers.{lower-input, number-right}
use Rattle.paper.proofs.Fresh.{afresh-alike, afresh-equation}
use Rattle.rows.specs.Asking.{waiting}
use Rattle.routes.specs.Reach.{Closed, Either, Reached}
use Rattle.routes.proofs.Reach.{reached-still, reaching-start, reaching-step, reached-own}
use Rattle.routes.specs.Rows.{values_of}
use Rattle.routes.specs.Work.{by_row, work_net, depth, works_out, RowsWorkable, worked_out, asks_out, Ready, Asked, Asking}

module _ (t : Tables) (work : List ℕ) where
  -- ── the model of what is to be worked out ──
  pub lawful-work : Lawful (work_net t work)
  unfolding work_net
  lawful-work = record {
    bare = λ v e. bare (nat work v) e;
    asks-in = λ v f i m. inside (nat work v) f i m;
    looks = λ v f g h. looks (nat work v) f g h;
    asks-same = λ v f g h. same (nat work v) f g h;
  }
    where
      form : ℕ → Values → ℤ
      form r f = formula (nat t.kinds r) (get_or t.params r (pos 0)) (part t r t.coefs) (map f (part t r t.vars))

      asks : ℕ → Values → List ℕ
      asks r f = looked (nat t.kinds r) f (part t r t.vars)

      bare : (w : ℕ) → by_row false (λ r. true) w ≡ false → by_row [] (λ r. part t r t.vars) w ≡ []
      bare zero e = refl
      bare (suc r) e = absurd (true≢false e)

      inside : (w : ℕ) (f : Values) (i : ℕ) → Memᴰ i (by_row [] (λ r. asks r f) w) → Memᴰ i (by_row [] (λ r. part t r t.vars) w)
      inside zero f i m = m
      inside (suc r) f i m = looked-in (nat t.kinds r) f (part t r t.vars) m

      looks : (w : ℕ) (f g : Values) → ((i : ℕ) → Memᴰ i (by_row [] (λ r. asks r f) w) → f i ≡ g i) → by_row (pos 0) (λ r. form r f) w ≡ by_row (pos 0) (λ r. form r g) w
      looks zero f g h = refl
      looks (suc r) f g h = formula-same f g (nat t.kinds r) (get_or t.params r (pos 0)) (part t r t.coefs) (part t r t.vars) h

      same : (w : ℕ) (f g : Values) → ((i : ℕ) → Memᴰ i (by_row [] (λ r. asks r f) w) → f i ≡ g i) → by_row [] (λ r. asks r f) w ≡ by_row [] (λ r. asks r g) w
      same zero f g h = refl
      same (suc r) f g h = looked-same f g (nat t.kinds r) (part t r t.vars) h

  pub idle : (v : ℕ) → nat work v ≡ 0 → works_out t work v ≡ false
  unfolding work_net
  idle v e = ap (by_row false (λ r. true)) e

  pub busy : (v r : ℕ) → nat work v ≡ suc r → works_out t work v ≡ true
  unfolding work_net
  busy v r e = ap (by_row false (λ q. true)) e

  pub busy-below : (v r : ℕ) → nat work v ≡ suc r → v < length work
  busy-below v r e = go (ltb v (length work)) refl
    where
      go : (b : Bool) → ltb v (length work) ≡ b → v < length work
      go true q = ltb-true v (length work) q
      go false q = clash (busy v r e) (idle v (get_or-eq_default work 0 (ltb-false v (length work) q)))

  module _ (v r : ℕ) (e : nat work v ≡ suc r) where
    pub row-form : (f : Values) → (work_net t work).form v f ≡ formula (nat t.kinds r) (get_or t.params r (pos 0)) (part t r t.coefs) (map f (part t r t.vars))
    unfolding work_net
    row-form f = ap (by_row (pos 0) (λ q. formula (nat t.kinds q) (get_or t.params q (pos 0)) (part t q t.coefs) (map f (part t q t.vars)))) e

    pub row-asks : (f : Values) → (work_net t work).asks v f ≡ looked (nat t.kinds r) f (part t r t.vars)
    unfolding work_net
    row-asks f = ap (by_row [] (λ q. looked (nat t.kinds q) f (part t q t.vars))) e

    pub row-ins : (work_net t work).ins v ≡ part t r t.vars
    unfolding work_net
    row-ins = ap (by_row [] (λ q. part t q t.vars)) e

  -- ── nothing to do ──
  module _ (v : ℕ) (flags : List ℕ) where
    waiting-is : {b : Bool} → eqb (nat work v) 0 ≡ b → waiting work flags v ≡ cond b false (not (eqb (nat flags v) 1))
    waiting-is q = ap (λ b. cond b false (not (eqb (nat flags v) 1))) q

    done : waiting work flags v ≡ false → works_out t work v ≡ true → nat flags v ≡ 1
    done e w = go (eqb (nat work v) 0) refl
      where
        go : (b : Bool) → eqb (nat work v) 0 ≡ b → nat flags v ≡ 1
        go true q = clash w (idle v (eqb-true (nat work v) 0 q))
        go false q = eqb-true (nat flags v) 1 (not-false (eqb (nat flags v) 1) (sym (waiting-is q) ∙ e))

    pub asked-still : (trial : List ℤ) → waiting work flags v ≡ false → Ready t work trial flags → Asked t work v trial flags trial flags
    asked-still trial e r =
        record { reached = reached-still (works_out t work) (asks_out t work trial) v flags r.closed (done e); holds = r.holds; still = λ u h. refl; long = refl }

  -- what has been asked has its value
  pub asked-value : (v : ℕ) (trial : List ℤ) (flags : List ℕ) (trial' : List ℤ) (flags' : List ℕ) → Asked t work v trial flags trial' flags' → values_of trial' v ≡ worked_out t work trial v
  asked-value v trial flags trial' flags' a = a.holds.at v a.reached.here

  module _ (w : RowsWorkable t work) where
    pub worked-idle : (trial : List ℤ) (v : ℕ) → works_out t work v ≡ false → worked_out t work trial v ≡ values_of trial v
    unfolding worked_out
    worked-idle trial v e =
        afresh-equation (work_net t work) lawful-work (length work) w.chains (values_of trial) v
        ∙ ap (λ b. cond b ((work_net t work).form v (afresh (work_net t work) (values_of trial) (length work))) (values_of trial v)) e

    worked-busy : (trial : List ℤ) (v : ℕ) → works_out t work v ≡ true → worked_out t work trial v ≡ (work_net t work).form v (worked_out t work trial)
    unfolding worked_out
    worked-busy trial v e =
        afresh-equation (work_net t work) lawful-work (length work) w.chains (values_of trial) v
        ∙ ap (λ b. cond b ((work_net t work).form v (afresh (work_net t work) (values_of trial) (length work))) (values_of trial v)) e

    -- an input that is asked stands lower, and has room
    pub asks-below : (v r : ℕ) → nat work v ≡ suc r → (f : Values) (i : ℕ) → Memᴰ i ((work_net t work).asks v f) → (depth t work i < depth t work v) × (i < length work)
    unfolding depth
    asks-below v r e f i m =
        let k = lawful-work.asks-in v f i m in (
          lower-input (work_net t work) lawful-work (number (work_net t work) (length work)) v i (number-right (work_net t work) lawful-work (length work) w.chains v) k,
          ltb-true i (length work) (all_in (λ u. ltb u (length work)) (part t r t.vars) (w.inputs v r e) (subst (Memᴰ i) (row-ins v r e) k)),
        )

    -- ── one goal after another ──
    pub asking-start : (goal : ℕ → Type 0) (trial : List ℤ) (flags : List ℕ) → Ready t work trial flags → Asking t work goal goal trial flags trial flags
    asking-start goal trial flags r =
        record { reaching = reaching-start (works_out t work) (asks_out t work trial) goal flags r.closed; holds = r.holds; still = λ u h. refl; long = refl }

    module _ (goal left : ℕ → Type 0) (trial₀ : List ℤ) (flags₀ : List ℕ) (trial : List ℤ) (flags : List ℕ) (a : Asking t work goal left trial₀ flags₀ trial flags) where
      -- the values that come out are the same
      pub asking-same : worked_out t work trial ≡ worked_out t work trial₀
      unfolding worked_out
      asking-same = ap (λ (z : ℕ → Values). z (length work)) (afresh-alike (work_net t work) (values_of trial) (values_of trial₀) (λ u e.
          a.holds.at u (λ h. clash h e) ∙ afresh-equation (work_net t work) lawful-work (length work) w.chains (values_of trial₀) u
          ∙ ap (λ b. cond b ((work_net t work).form u (afresh (work_net t work) (values_of trial₀) (length work))) (values_of trial₀ u)) e))

      pub asking-ready : Ready t work trial₀ flags₀ → Ready t work trial flags
      asking-ready r = record {
        in-trial = let p = r.in-trial in let q = a.long in omega arith;
        in-flags = let p = r.in-flags in let q = a.reaching.long in omega arith;
        closed = subst (λ (f : Values). Closed (works_out t work) (λ u. (work_net t work).asks u f) flags) (sym asking-same) a.reaching.closed;
        holds = record { at = λ u h. a.holds.at u h ∙ ap (λ (f : Values). f u) (sym asking-same) };
      }

      pub asking-step : (rest : ℕ → Type 0) (x : ℕ) (trial' : List ℤ) (flags' : List ℕ) → goal x → ((i : ℕ) → left i → (i ≡ x) ⊎ rest i)
          → Asked t work x trial flags trial' flags' → Asking t work goal rest trial₀ flags₀ trial' flags'
      asking-step rest x trial' flags' g split b = record {
        reaching = reaching-step (works_out t work) (asks_out t work trial₀) goal left rest flags₀ flags a.reaching x flags' g split reached;
        holds = record { at = λ u h. b.holds.at u h ∙ ap (λ (f : Values). f u) asking-same };
        still = λ u h. still u h (reached.only (λ v. true) (record { on = λ p i q e m. refl }) refl u);
        long = b.long ∙ a.long;
      }
        where
          reached : Reached (works_out t work) (asks_out t work trial₀) x flags flags'
          reached = subst (λ (f : Values). Reached (works_out t work) (λ u. (work_net t work).asks u f) x flags flags') asking-same b.reached

          first : (u : ℕ) → nat flags' u ≡ nat flags u → nat flags' u ≡ nat flags₀ u → values_of trial' u ≡ values_of trial₀ u
          first u p h = b.still u p ∙ a.still u (sym p ∙ h)

          still : (u : ℕ) → nat flags' u ≡ nat flags₀ u → Either (works_out t work) (asks_out t work trial₀) (λ v. true) flags flags' u → values_of trial' u ≡ values_of trial₀ u
          still u h (inl p) = first u p h
          still u h (inr p) = first u (p.2 ∙ sym (a.reaching.kept u (sym h ∙ p.2))) h

    -- ── a row after its inputs ──
    pub asked-row : (v r : ℕ) → nat work v ≡ suc r → (left : ℕ → Type 0) (trial₀ : List ℤ) (flags₀ : List ℕ) (trial : List ℤ) (flags : List ℕ) (y : ℤ) → Ready t work trial₀ flags₀
        → Asking t work (λ i. Memᴰ i (asks_out t work trial₀ v)) left trial₀ flags₀ trial flags → ((i : ℕ) → left i → ⊥)
        → y ≡ formula (nat t.kinds r) (get_or t.params r (pos 0)) (part t r t.coefs) (map (values_of trial) (part t r t.vars))
        → (y ≡ worked_out t work trial₀ v) × Asked t work v trial₀ flags₀ (set trial v y) (set flags v 1)
    asked-row v r e left trial₀ flags₀ trial flags y ready a none p = (
      value,
      record {
        reached = reached-own (works_out t work) (asks_out t work trial₀) v left flags₀ flags (busy v r e) in-flags none a.reaching;
        holds = record { at = λ u h. holds u h (eqb v u) refl };
        still = λ u h. still u h (eqb v u) refl;
        long = length-set trial v y ∙ a.long;
      },
    )
      where
        in-flags : v < length flags
        in-flags = let l = busy-below v r e in let k = ready.in-flags in let q = a.reaching.long in omega arith

        in-trial : v < length trial
        in-trial = let l = busy-below v r e in let k = ready.in-trial in let q = a.long in omega arith

        met : (i : ℕ) → (nat flags i ≡ 1) ⊎ left i → nat flags i ≡ 1
        met i (inl h) = h
        met i (inr h) = absurd (none i h)

        value : y ≡ worked_out t work trial₀ v
        value =
            p ∙ sym (row-form v r e (values_of trial))
            ∙ sym (lawful-work.looks v (worked_out t work trial₀) (values_of trial) (λ i m. sym (a.holds.at i (λ h. met i (a.reaching.passed i m h)))))
            ∙ sym (worked-busy trial₀ v (busy v r e))

        holds : (u : ℕ) → (works_out t work u ≡ true → nat (set flags v 1) u ≡ 1) → (b : Bool) → eqb v u ≡ b → values_of (set trial v y) u ≡ worked_out t work trial₀ u
        holds u h true q = subst (λ z. values_of (set trial v y) z ≡ worked_out t work trial₀ z) (eqb-true v u q) (get_or-set_same trial v y (pos 0) in-trial ∙ value)
        holds u h false q =
            get_or-set_other trial v u y (pos 0) (λ z. eqb-false v u q (sym z))
            ∙ a.holds.at u (λ x. sym (get_or-set_other flags v u 1 0 (λ z. eqb-false v u q (sym z))) ∙ h x)

        still : (u : ℕ) → nat (set flags v 1) u ≡ nat flags₀ u → (b : Bool) → eqb v u ≡ b → values_of (set trial v y) u ≡ values_of trial₀ u
        still u h true q = subst (λ z. nat (set flags v 1) z ≡ nat flags₀ z → values_of (set trial v y) z ≡ values_of trial₀ z) (eqb-true v u q) own h
          where
            own : nat (set flags v 1) v ≡ nat flags₀ v → values_of (set trial v y) v ≡ values_of trial₀ v
            own k = get_or-set_same trial v y (pos 0) in-trial ∙ value ∙ sym (ready.holds.at v (λ x. sym k ∙ get_or-set_same flags v 1 0 in-flags))
        still u h false q =
            get_or-set_other trial v u y (pos 0) (λ z. eqb-false v u q (sym z))
            ∙ a.still u (sym (get_or-set_other flags v u 1 0 (λ z. eqb-false v u q (sym z))) ∙ h)
