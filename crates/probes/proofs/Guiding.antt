-- Where the walk has marked what moved, asking over the work that it planned leaves what route 3 leaves, and astray is only what is listed. Assumes nothing.
use Prim.Native.Nat.{ℕ, ◌+◌, ◌≤◌, ◌<◌}
use native.Mathlib.Omega.{arith}
use mathlib.Core.Bool.{Bool, true, false, cond, ◌&&◌, true≢false}
use mathlib.Core.List.{List}
use mathlib.Core.Logic.{◌⊎◌, inl, inr}
use mathlib.Core.Path.{◌≡◌, refl, ap, sym, ◌∙◌, subst}
use lib.Dec.{eqb, ltb}
use lib.IntN.{ℤ, pos}
use lib.ListN.{length, take}
use lib.Seq.{get_or-take, length-take-le}
use borrow.Author.Tests.{not-false}
use Rattle.integers.proofs.Order.{eq_z-yes}
use Rattle.paper.specs.Lists.{any, all, nat}
use Rattle.paper.specs.Net.{mark-guided, differs, marked}
use Rattle.paper.specs.Tables.{Tables, net, is_made, inputs_of, values_in}
use Rattle.paper.proofs.Count.{size-le}
use Rattle.paper.proofs.Sizes.{sized-facts}
use Rattle.paper.proofs.Accept.{made-below, inputs-below}
use Rattle.paper.proofs.Lawful.{lawful}
use Rattle.paper.proofs.Marks.{marked-equation}
use Rattle.paper.proofs.Buffers.{over-of, over-at}
use Rattle.tables.specs.Makers.{Makers}
use Rattle.order.specs.Numbering.{Clean}
use Rattle.index.specs.Index.{Indexed}
use Rattle.rows.specs.Changes.{values_of}
use Rattle.routes.specs.Reach.{Reaching}
use Rattle.routes.specs.Rows.{Ended}
use Rattle.routes.specs.Readers.{variables, Markable, Movable, Moved, none}
use Rattle.routes.specs.Routed.{Begun, Named, new_of, evaluated_of, Routed}
use Rattle.routes.specs.Work.{RowsWorkable, Ready, AllAsked}
use Rattle.routes.specs.Plan.{work_of}
use Rattle.routes.proofs.Planned.{rows_of, front-is, can-ask, asked-front}
use Rattle.closed_routes.proofs.Marks.{upward}
use Rattle.routes.proofs.Marked.{from, clean-markable, named-movable, marks-are}
use Rattle.routes.proofs.Guided.{guides-marked, routed}
use Rattle.closed_routes.specs.Readers.{LeadsUp}
use Rattle.probes.specs.Touched.{Listed, Noted}
use Rattle.probes.specs.Rest.{Unmarked, Rests, Astray}
use Rattle.probes.proofs.Notes.{noted-start}

module _ (t : Tables) (d : Ended t) (starts places : List ℕ) (x : Indexed t starts places) (stored trial : List ℤ) (flags moves asked : List ℕ)
    (B : Begun t stored trial flags) (N : Named t stored trial moves) (low : all (λ v. ltb v t.n) asked ≡ true) (by : List ℕ) (M : Makers t by)
    (before : List ℕ) (row : List ℕ) (U : Unmarked t.n before row) where
  abbrev pub starting : List ℕ
  starting = take (t.n + 1) starts

  pub starting-long : length starting ≡ t.n + 1
  starting-long = length-take-le (t.n + 1) starts (let h = x.long in omega arith)

  variables-are : variables starting ≡ t.n
  variables-are = let h = starting-long in omega arith

  clean : Clean t.n before
  clean = record { long = U.in-marks; at = U.no-mark }

  pub can-touch : (touched : List ℕ) → t.n ≤ length touched
      → LeadsUp t.makes starting places × (Movable starting moves stored trial × (Markable t.makes starting places before × Noted (variables starting) by before row touched 0))
  can-touch touched h = (
    upward t d.sound starts places x,
    (
      named-movable t d.sound starts places x stored trial flags moves B N,
      (
        clean-markable t d.sound starts places x before clean,
        subst (λ n. Noted n by before row touched 0) (sym variables-are) (noted-start t.n by before row touched U M.long h),
      ),
    ),
  )

  module _ (marks work touched : List ℕ) (count : ℕ) (r : Reaching (λ u. true) (from t d.sound starts places x) (Moved moves stored trial) none before marks)
      (noted : Noted (variables starting) by marks work touched count) where
    abbrev is : ℕ → Bool
    is = marked (net t) (values_in t stored) (values_in t trial) t.n

    marks-is : (v : ℕ) → nat marks v ≡ cond (is v) 1 0
    marks-is = marks-are t d.sound starts places x stored trial flags moves B N before marks clean r

    list : Noted t.n by marks work touched count
    list = subst (λ n. Noted n by marks work touched count) variables-are noted

    planned : take t.n work ≡ work_of t.n t.m t.makes marks
    planned = front-is t by M marks work work (over-of (λ v. cond (eqb (nat marks v) 1) (nat by v) 0) t.n work work 0 refl list.in-work list.planned refl)

    pub work-long : t.n ≤ length work
    work-long = list.in-work

    pub can : RowsWorkable (rows_of t) (take t.n work) × ((all (λ v. ltb v (length (take t.n work))) asked ≡ true) × Ready (rows_of t) (take t.n work) trial flags)
    can = can-ask t d marks work planned asked stored trial flags B low

    module _ (trial' : List ℤ) (flags' : List ℕ) (a : AllAsked (rows_of t) (take t.n work) asked trial flags trial' flags') where
      pub guided : Routed t mark-guided stored trial flags asked trial' flags'
      guided = routed t d marks mark-guided stored trial flags asked B (guides-marked t stored trial marks marks-is) trial' flags' (asked-front t d marks work planned asked trial flags trial' flags' a)

      -- ── a variable that is not marked rests ──
      module _ (u : ℕ) (e : is u ≡ false) where
        idle : evaluated_of t mark-guided stored trial asked u ≡ false
        idle = go (is_made t u) (is u) _ e
          where
            go : (m b n : Bool) → b ≡ false → ((m && b) && n) ≡ false
            go true true n q = absurd (true≢false q)
            go true false n q = refl
            go false b n q = refl

        unmoved : values_in t trial u ≡ values_in t stored u
        unmoved = go (is_made t u) refl (sym (marked-equation (net t) (lawful t) t.n (inputs-below t d.sound) (made-below t d.sound) some (values_in t stored) (values_in t trial) u) ∙ e)
          where
            some : 0 < t.n
            some = let z = (sized-facts t d.sound.sized).n-some in omega arith

            go : (b : Bool) → is_made t u ≡ b → cond b (any is (inputs_of t u)) (differs (values_in t trial) (values_in t stored) u) ≡ false → values_in t trial u ≡ values_in t stored u
            go true q h = B.made u q
            go false q h = eq_z-yes _ _ (not-false _ h)

        rests : Rests t.n stored trial' flags' marks work u
        rests = record {
          value = λ h.
              ap (λ (row : List ℤ). values_of row u) guided.values ∙ over-at _ t.n trial u (pos 0) h ∙ ap (λ b. cond b (new_of t mark-guided stored trial asked u) (values_in t trial u)) idle
              ∙ unmoved ∙ get_or-take t.n stored u (pos 0) h;
          no_flag = λ h. ap (λ row. nat row u) guided.flagged ∙ over-at _ t.n flags u 0 h ∙ ap (λ b. cond b 1 0) idle;
          no-mark = unmarked;
          no-work = λ h. list.planned u h ∙ ap (λ z. cond (eqb z 1) (nat by u) 0) unmarked;
        }
          where
            unmarked : nat marks u ≡ 0
            unmarked = marks-is u ∙ ap (λ b. cond b 1 0) e

      pub astray : t.n ≤ length trial' → t.n ≤ length flags' → t.n ≤ length marks → Astray t.n stored trial' flags' marks work touched 0 count
      astray in-trial in-flags in-marks = record {
        roomy = record { in-stored = B.in-stored; in-trial = in-trial; in-flags = in-flags; in-marks = in-marks; in-work = list.in-work };
        in_list = let a = list.in_list in let b = list.counted in let c = size-le (λ v. eqb (nat marks v) 1) t.n in omega arith;
        low = list.low;
        each = λ u. go u (is u) refl;
      }
        where
          go : (u : ℕ) (b : Bool) → is u ≡ b → Rests t.n stored trial' flags' marks work u ⊎ Listed touched 0 count u
          go u true e = inr (list.listed u (marks-is u ∙ ap (λ b. cond b 1 0) e))
          go u false e = inl (rests u e)
