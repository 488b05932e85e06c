-- The row of work that marks give: the model that it leaves to be worked out is the whole one where a made variable is marked. Assumes nothing.
use Prim.Native.Nat.{ℕ, zero, suc, ◌≤◌, ◌<◌}
use native.Mathlib.Omega.{arith}
use mathlib.Core.Bool.{Bool, true, false, cond, ◌&&◌}
use mathlib.Core.List.Memᴰ
use mathlib.Core.List.{List, [], map, Memᴰ}
use mathlib.Core.Path.{◌≡◌, refl, ap, sym, ◌∙◌, subst}
use lib.Dec.{eqb, ltb}
use lib.IntN.{ℤ, pos}
use lib.ListN.{length, get_or, take, replicate, get_or-eq_default, get_or-replicate}
use lib.Seq.{ext_get_or, length-take-le, get_or-take}
use borrow.Author.Tests.{ltb-true, ltb-false}
use Rattle.paper.specs.Lists.{all, nat, below, over}
use Rattle.paper.specs.Formula.{formula, looked}
use Rattle.paper.specs.Net.{Values, Net, runs, able}
use Rattle.paper.specs.Tables.{Tables, is_made, inputs_of, row_of, part, form_of, asks_of}
use Rattle.paper.proofs.Lists.{and_left, all_of}
use Rattle.paper.proofs.Buffers.{length-below, get_d-below, over-front, over-length, over-same}
use Rattle.paper.proofs.Fix.{able-suc}
use Rattle.paper.proofs.Accept.{sound-row, made_row, made-below}
use Rattle.tables.specs.Makers.{Makers, maker_of}
use Rattle.routes.specs.Rows.{Ended, values_of}
use Rattle.routes.specs.Routed.{Begun}
use Rattle.routes.specs.Work.{rows, work_net, works_out, RowsWorkable, worked_out, asks_out, Ready, AllAsked}
use Rattle.routes.specs.Plan.{planned, work_of}
use Rattle.routes.proofs.Walks.{row_fits}
use Rattle.routes.proofs.Asks as Asks
use Rattle.routes.proofs.Asks.{lawful-work, idle, busy, worked-idle}

abbrev pub rows_of : Tables → Tables
rows_of t = rows t.kinds t.params t.firsts t.counts t.vars t.coefs

-- a row that is written over keeps its room
pub over-fits : (n : ℕ) (f : ℕ → ℕ) (before row : List ℕ) → row ≡ over n f before → n ≤ length before → n ≤ length row
over-fits n f before row e h = let l = ap length e ∙ over-length f n before h in omega arith

-- the row of work is the front of the row that it was planned in by the makers
pub front-is : (t : Tables) (by : List ℕ) → Makers t by → (marks before row : List ℕ) → row ≡ over t.n (λ v. cond (eqb (nat marks v) 1) (nat by v) 0) before
    → take t.n row ≡ work_of t.n t.m t.makes marks
unfolding work_of
front-is t by M marks before row e =
    ap (take t.n) (e ∙ over-same (λ v. cond (eqb (nat marks v) 1) (nat by v) 0) t.n before (planned t.m t.makes marks) (λ v l. ap (λ x. cond (eqb (nat marks v) 1) x 0) (M.at v l)))
    ∙ over-front (planned t.m t.makes marks) t.n before

-- and where all are marked it is the makers' front itself
pub front-all : (t : Tables) (by : List ℕ) → Makers t by → t.n ≤ 4096 → take t.n by ≡ work_of t.n t.m t.makes (replicate 4096 1)
unfolding work_of
front-all t by M few = ext_get_or 0 (take t.n by) (below all t.n) (long ∙ sym (length-below all t.n)) (λ v h.
    let l : v < t.n = let k = long in omega arith in
    get_or-take t.n by v 0 l ∙ M.at v l ∙ sym (get_d-below all t.n v 0 l ∙ ap (λ x. cond (eqb x 1) (maker_of t.m t.makes v) 0) (get_or-replicate {A = ℕ} 4096 v 1 0 (omega arith))))
  where
    all : ℕ → ℕ
    all = planned t.m t.makes (replicate 4096 1)

    long : length (take t.n by) ≡ t.n
    long = length-take-le t.n by M.long

module _ (t : Tables) (d : Ended t) (marks : List ℕ) where
  -- v is made and marked
  abbrev pub does : ℕ → Bool
  does v = is_made t v && eqb (nat marks v) 1

  -- the row of work, and the model that it leaves to be worked out
  abbrev pub work : List ℕ
  work = work_of t.n t.m t.makes marks

  abbrev pub left : Net
  left = work_net (rows_of t) work

  pub work-long : length work ≡ t.n
  unfolding work_of
  work-long = length-below (planned t.m t.makes marks) t.n

  planned-is : (v : ℕ) → planned t.m t.makes marks v ≡ cond (does v) (suc (row_of t v)) 0
  unfolding row_of
  planned-is v = go (eqb (nat marks v) 1) (is_made t v)
    where
      go : (b c : Bool) → cond b (cond c (suc (row_of t v)) 0) 0 ≡ cond (c && b) (suc (row_of t v)) 0
      go true true = refl
      go true false = refl
      go false true = refl
      go false false = refl

  made_of : (v : ℕ) → does v ≡ true → is_made t v ≡ true
  made_of v e = and_left (is_made t v) (eqb (nat marks v) 1) e

  pub does-below : (v : ℕ) → does v ≡ true → v < t.n
  does-below v e = made-below t d.sound v (made_of v e)

  work-at : (v : ℕ) → nat work v ≡ cond (does v) (suc (row_of t v)) 0
  unfolding work_of
  work-at v = go (ltb v t.n) refl
    where
      long : length (below (planned t.m t.makes marks) t.n) ≡ t.n
      long = length-below (planned t.m t.makes marks) t.n

      none : (b : Bool) → does v ≡ b → t.n ≤ v → 0 ≡ cond b (suc (row_of t v)) 0
      none true e h = absurd (let k = does-below v e in omega arith)
      none false e h = refl

      go : (b : Bool) → ltb v t.n ≡ b → nat (below (planned t.m t.makes marks) t.n) v ≡ cond (does v) (suc (row_of t v)) 0
      go true e = get_d-below (planned t.m t.makes marks) t.n v 0 (ltb-true v t.n e) ∙ planned-is v
      go false e =
          let h = ltb-false v t.n e in let k = long in
          get_or-eq_default (below (planned t.m t.makes marks) t.n) 0 (omega arith) ∙ none (does v) refl h

  -- ── where a made variable is marked, the model is the whole one ──
  pub works-is : (v : ℕ) → works_out (rows_of t) work v ≡ does v
  works-is v = go (does v) (work-at v)
    where
      go : (b : Bool) → nat work v ≡ cond b (suc (row_of t v)) 0 → works_out (rows_of t) work v ≡ b
      go true e = busy (rows_of t) work v (row_of t v) e
      go false e = idle (rows_of t) work v e

  module _ (v : ℕ) (e : does v ≡ true) where
    row_is : nat work v ≡ suc (row_of t v)
    row_is = work-at v ∙ ap (λ b. cond b (suc (row_of t v)) 0) e

    part-is : part t (row_of t v) t.vars ≡ inputs_of t v
    part-is = sym (ap (λ b. cond b (part t (row_of t v) t.vars) []) (made_of v e))

    pub ins-is : left.ins v ≡ inputs_of t v
    ins-is = Asks.row-ins (rows_of t) work v (row_of t v) row_is ∙ part-is

    pub form-is : (f : Values) → left.form v f ≡ form_of t v f
    form-is f =
        Asks.row-form (rows_of t) work v (row_of t v) row_is f
        ∙ ap (λ vs. formula (nat t.kinds (row_of t v)) (get_or t.params (row_of t v) (pos 0)) (part t (row_of t v) t.coefs) (map f vs)) part-is

    pub asks-is : (f : Values) → left.asks v f ≡ asks_of t v f
    asks-is f = Asks.row-asks (rows_of t) work v (row_of t v) row_is f ∙ ap (looked (nat t.kinds (row_of t v)) f) part-is

  -- ── it can be worked out ──
  chains : (k v : ℕ) → able (inputs_of t) k v ≡ true → able left.ins k v ≡ true
  unfolding runs
  chains zero v e = e
  chains (suc k) v e = go (does v) refl (λ i m. chains k i (able-suc (inputs_of t) k v e m))
    where
      go : (b : Bool) → does v ≡ b → ((i : ℕ) → Memᴰ i (inputs_of t v) → able left.ins k i ≡ true) → all (able left.ins k) (left.ins v) ≡ true
      go true q h = ap (all (able left.ins k)) (ins-is v q) ∙ all_of (able left.ins k) (inputs_of t v) h
      go false q h = ap (all (able left.ins k)) ((lawful-work (rows_of t) work).bare v (works-is v ∙ q))

  -- an entry of the row of work is one more than a row
  found : (v r : ℕ) → nat work v ≡ suc r → r < t.m
  found v r e = go (does v) refl (work-at v)
    where
      go : (b : Bool) → does v ≡ b → nat work v ≡ cond b (suc (row_of t v)) 0 → r < t.m
      go true q h = let k = made_row t d.sound v (made_of v q) in omega arith
      go false q h = absurd (omega arith)

  pub workable : RowsWorkable (rows_of t) work
  workable = record {
    chains = λ v. subst (λ k. able left.ins k v ≡ true) (sym work-long) (chains t.n v (d.chains v));
    fits = λ v r e values h. row_fits t d.sound r (found v r e) values (let l = work-long in omega arith);
    some = λ v r e. (sound-row t d.sound r (found v r e)).some;
    inputs = λ v r e. subst (λ k. all (λ u. ltb u k) (part t r t.vars) ≡ true) (sym work-long) (sound-row t d.sound r (found v r e)).inputs;
  }

  -- over clear flags nothing has been asked
  pub ready : (trial : List ℤ) (flags : List ℕ) → t.n ≤ length trial → t.n ≤ length flags → ((v : ℕ) → v < t.n → nat flags v ≡ 0) → Ready (rows_of t) work trial flags
  ready trial flags h k clear = record {
    in-trial = let l = work-long in omega arith;
    in-flags = let l = work-long in omega arith;
    closed = record { on = λ a i e m w. on a i e m (does a) refl };
    holds = record { at = λ u e. at u e (does u) refl };
  }
    where
      on : (a i : ℕ) → nat flags a ≡ 1 → Memᴰ i (asks_out (rows_of t) work trial a) → (b : Bool) → does a ≡ b → nat flags i ≡ 1
      on a i e m true q = absurd (let z = clear a (does-below a q) in omega arith)
      on a i e m false q =
          absurd (Memᴰ.not-nil (subst (Memᴰ i) ((lawful-work (rows_of t) work).bare a (works-is a ∙ q)) ((lawful-work (rows_of t) work).asks-in a (worked_out (rows_of t) work trial) i m)))

      at : (u : ℕ) → (works_out (rows_of t) work u ≡ true → nat flags u ≡ 1) → (b : Bool) → does u ≡ b → values_of trial u ≡ worked_out (rows_of t) work trial u
      at u e true q = absurd (let z = clear u (does-below u q) in let o = e (works-is u ∙ q) in omega arith)
      at u e false q = sym (worked-idle (rows_of t) work workable trial u (works-is u ∙ q))

  -- ── as the front of a row, over clear flags ──
  module _ (row : List ℕ) (front : take t.n row ≡ work) (asked : List ℕ) where
    pub can-ask : (stored trial : List ℤ) (flags : List ℕ) → Begun t stored trial flags → all (λ v. ltb v t.n) asked ≡ true
        → RowsWorkable (rows_of t) (take t.n row) × ((all (λ v. ltb v (length (take t.n row))) asked ≡ true) × Ready (rows_of t) (take t.n row) trial flags)
    can-ask stored trial flags b low =
        subst (λ (l : List ℕ). RowsWorkable (rows_of t) l × ((all (λ v. ltb v (length l)) asked ≡ true) × Ready (rows_of t) l trial flags)) (sym front)
        (workable, (subst (λ k. all (λ v. ltb v k) asked ≡ true) (sym work-long) low, ready trial flags b.in-trial b.in-flags b.clear))

    -- what asking over it leaves is what asking over the row of work leaves
    pub asked-front : (trial : List ℤ) (flags : List ℕ) (trial' : List ℤ) (flags' : List ℕ) → AllAsked (rows_of t) (take t.n row) asked trial flags trial' flags'
        → AllAsked (rows_of t) work asked trial flags trial' flags'
    asked-front trial flags trial' flags' a = subst (λ (l : List ℕ). AllAsked (rows_of t) l asked trial flags trial' flags') front a
