-- A row of work of sound tables: the model that it leaves to be worked out is the whole one where there is work. Assumes nothing.
use Prim.Native.Nat.{ℕ, suc, ◌≤◌, ◌<◌}
use native.Mathlib.Omega.{arith}
use mathlib.Core.Bool.{Bool, true, false, cond, ◌&&◌}
use mathlib.Core.List.{List, []}
use mathlib.Core.Path.{◌≡◌, refl, ap, sym, ◌∙◌, subst}
use lib.Dec.{eqb, ltb}
use lib.IntN.{ℤ}
use lib.ListN.{length, take, get_or-eq_default}
use lib.Seq.{get_or-take, length-take-le}
use borrow.Author.Tests.{ltb-true, ltb-false}
use Rattle.paper.specs.Lists.{all, nat}
use Rattle.paper.specs.Formula.{looked}
use Rattle.paper.specs.Net.{Values}
use Rattle.paper.specs.Tables.{Tables, is_made, inputs_of, row_of, part, asks_of}
use Rattle.paper.specs.Checks.{Sound}
use Rattle.paper.proofs.Lists.{and_left}
use Rattle.paper.proofs.Sizes.{sized-facts}
use Rattle.paper.proofs.Buffers.{length-below, get_d-below}
use Rattle.paper.proofs.Accept.{sound-row, made_row, made-below}
use Rattle.tables.specs.Makers.{Makers}
use Rattle.tables.proofs.Made.{maker-is}
use Rattle.routes.specs.Work.{work_net, works_out}
use Rattle.routes.specs.Plan.{planned, work_of}
use Rattle.routes.proofs.Asks.{lawful-work, idle, busy, row-asks, row-ins}
use Rattle.closed_routes.specs.Looking.{shapes, Parts, Lookable}
use Rattle.closed_routes.specs.Whole.{whole_net}

-- the row says, for each variable that is to be worked out, one more than its row
pub record Plan (t : Tables) (does : ℕ → Bool) (work : List ℕ) : Type 0 where
  pub long : length work ≡ t.n
  pub made : (v : ℕ) → does v ≡ true → is_made t v ≡ true
  pub at : (v : ℕ) → v < t.n → nat work v ≡ cond (does v) (suc (row_of t v)) 0

-- every made variable
pub plan-all : (t : Tables) (by : List ℕ) → Makers t by → Plan t (is_made t) (take t.n by)
plan-all t by k = record {
  long = length-take-le t.n by k.long;
  made = λ v e. e;
  at = λ v l. get_or-take t.n by v 0 l ∙ maker-is t by k v l;
}

-- those that are marked
pub plan-marked : (t : Tables) (marks : List ℕ) → Plan t (λ v. is_made t v && eqb (nat marks v) 1) (work_of t.n t.m t.makes marks)
unfolding row_of work_of
plan-marked t marks = record {
  long = length-below (planned t.m t.makes marks) t.n;
  made = λ v e. and_left (is_made t v) (eqb (nat marks v) 1) e;
  at = λ v l. get_d-below (planned t.m t.makes marks) t.n v 0 l ∙ go v (eqb (nat marks v) 1) (is_made t v);
}
  where
    go : (v : ℕ) (b c : Bool) → cond b (cond c (suc (row_of t v)) 0) 0 ≡ cond (c && b) (suc (row_of t v)) 0
    go v true true = refl
    go v true false = refl
    go v false true = refl
    go v false false = refl

module _ (t : Tables) (s : Sound t) (does : ℕ → Bool) (work : List ℕ) (P : Plan t does work) where
  -- the rows as the walk reads them
  abbrev pub shape : Tables
  shape = shapes t.kinds t.firsts t.counts t.vars

  pub does-below : (v : ℕ) → does v ≡ true → v < t.n
  does-below v e = made-below t s v (P.made v e)

  work-at : (v : ℕ) → nat work v ≡ cond (does v) (suc (row_of t v)) 0
  work-at v = go (ltb v t.n) refl
    where
      none : (b : Bool) → does v ≡ b → t.n ≤ v → 0 ≡ cond b (suc (row_of t v)) 0
      none true e h = absurd (let k = does-below v e in omega arith)
      none false e h = refl

      go : (b : Bool) → ltb v t.n ≡ b → nat work v ≡ cond (does v) (suc (row_of t v)) 0
      go true e = P.at v (ltb-true v t.n e)
      go false e = let h = ltb-false v t.n e in let k = P.long in get_or-eq_default work 0 (omega arith) ∙ none (does v) refl h

  pub works-is : (v : ℕ) → works_out shape work v ≡ does v
  works-is v = go (does v) (work-at v)
    where
      go : (b : Bool) → nat work v ≡ cond b (suc (row_of t v)) 0 → works_out shape work v ≡ b
      go true e = busy shape work v (row_of t v) e
      go false e = idle shape work v e

  module _ (v : ℕ) (e : does v ≡ true) where
    row_is : nat work v ≡ suc (row_of t v)
    row_is = work-at v ∙ ap (λ b. cond b (suc (row_of t v)) 0) e

    part-is : part t (row_of t v) t.vars ≡ inputs_of t v
    part-is = sym (ap (λ b. cond b (part t (row_of t v) t.vars) []) (P.made v e))

    pub asks-is : (f : Values) → (work_net shape work).asks v f ≡ asks_of t v f
    asks-is f = row-asks shape work v (row_of t v) row_is f ∙ ap (looked (nat t.kinds (row_of t v)) f) part-is

    pub ins-is : (whole_net t.firsts t.counts t.vars work).ins v ≡ inputs_of t v
    ins-is = row-ins (shapes [] t.firsts t.counts t.vars) work v (row_of t v) row_is ∙ part-is

  pub ins-none : (v : ℕ) → does v ≡ false → (whole_net t.firsts t.counts t.vars work).ins v ≡ []
  ins-none v e =
      let bare = shapes [] t.firsts t.counts t.vars in
      (lawful-work bare work).bare v (idle bare work v (work-at v ∙ ap (λ b. cond b (suc (row_of t v)) 0) e))

  -- ── its rows ──
  found : (v r : ℕ) → nat work v ≡ suc r → r < t.m
  found v r e = go (does v) refl (work-at v)
    where
      go : (b : Bool) → does v ≡ b → nat work v ≡ cond b (suc (row_of t v)) 0 → r < t.m
      go true q h = let k = made_row t s v (P.made v q) in omega arith
      go false q h = absurd (omega arith)

  pub parts : Parts t.firsts t.counts t.vars work
  parts = record {
    in-firsts = λ v r e. let k = found v r e in let z = (sized-facts t s.sized).firsts in omega arith;
    in-counts = λ v r e. let k = found v r e in let z = (sized-facts t s.sized).counts in omega arith;
    inside = λ v r e. let i = (sound-row t s r (found v r e)).inside in let z = (sized-facts t s.sized).vars in omega arith;
    inputs = λ v r e. subst (λ k. all (λ u. ltb u k) (part t r t.vars) ≡ true) (sym P.long) (sound-row t s r (found v r e)).inputs;
  }

  pub laid : (values : List ℤ) → t.n ≤ length values → Lookable shape work values
  laid values h = record {
    parts = parts;
    in-kinds = λ v r e. let k = found v r e in let z = (sized-facts t s.sized).kinds in omega arith;
    in-values = let l = P.long in omega arith;
  }
