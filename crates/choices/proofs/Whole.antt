-- The row of makers leads to the row of every made variable, so the model that it describes is that of the tables. Assumes nothing.
use Prim.Native.Nat.{ℕ, suc, ◌≤◌, ◌<◌}
use native.Mathlib.Omega.{arith}
use mathlib.Core.Bool.{Bool, true, false, cond}
use mathlib.Core.List.{List, [], map}
use mathlib.Core.Path.{◌≡◌, refl, ap, sym, ◌∙◌, subst}
use lib.Dec.{ltb}
use lib.IntN.{pos}
use lib.ListN.{length, get_or, take, get_or-eq_default}
use lib.Seq.{get_or-take, length-take-le}
use borrow.Author.Tests.{ltb-true, ltb-false}
use Rattle.paper.specs.Lists.{all, nat}
use Rattle.paper.specs.Formula.{formula, looked}
use Rattle.paper.specs.Net.{Values, Net}
use Rattle.paper.specs.Tables.{Tables, net, is_made, inputs_of, row_of, part, form_of, asks_of}
use Rattle.paper.specs.Checks.{Sound}
use Rattle.paper.proofs.Sizes.{sized-facts}
use Rattle.paper.proofs.Accept.{sound-row, made_row, made-below}
use Rattle.paper.proofs.Lawful.{lawful}
use Rattle.tables.specs.Makers.{Makers}
use Rattle.routes.specs.Work.{work_net}
use Rattle.routes.proofs.Walks.{row_fits}
use Rattle.routes.proofs.Asks as Asks
use Rattle.routes.proofs.Planned.{rows_of}
use Rattle.choices.specs.Visiting.{PartsLent}
use Rattle.choices.proofs.Chained.{asks-bare}

module _ (t : Tables) (s : Sound t) (by : List ℕ) (k : Makers t by) where
  -- the makers of the variables, and the model
  abbrev pub makers : List ℕ
  makers = take t.n by

  abbrev pub whole : Net
  whole = work_net (rows_of t) makers

  pub makers-long : length makers ≡ t.n
  makers-long = length-take-le t.n by k.long

  maker-at : (v : ℕ) → nat makers v ≡ cond (is_made t v) (suc (row_of t v)) 0
  unfolding row_of
  maker-at v = go (ltb v t.n) refl
    where
      none : (b : Bool) → is_made t v ≡ b → t.n ≤ v → 0 ≡ cond b (suc (row_of t v)) 0
      none true e h = absurd (let l = made-below t s v e in omega arith)
      none false e h = refl

      go : (b : Bool) → ltb v t.n ≡ b → nat makers v ≡ cond (is_made t v) (suc (row_of t v)) 0
      go true e = let l = ltb-true v t.n e in get_or-take t.n by v 0 l ∙ k.at v l
      go false e = let h = ltb-false v t.n e in let z = makers-long in get_or-eq_default makers 0 (omega arith) ∙ none (is_made t v) refl h

  -- ── the model ──
  pub made-is : (v : ℕ) → whole.made v ≡ is_made t v
  made-is v = go (is_made t v) (maker-at v)
    where
      go : (b : Bool) → nat makers v ≡ cond b (suc (row_of t v)) 0 → whole.made v ≡ b
      go true e = Asks.busy (rows_of t) makers v (row_of t v) e
      go false e = Asks.idle (rows_of t) makers v e

  module _ (v : ℕ) (e : is_made t v ≡ true) where
    row_is : nat makers v ≡ suc (row_of t v)
    row_is = maker-at v ∙ ap (λ b. cond b (suc (row_of t v)) 0) e

    part-is : part t (row_of t v) t.vars ≡ inputs_of t v
    part-is = sym (ap (λ b. cond b (part t (row_of t v) t.vars) []) e)

    pub form-is : (f : Values) → whole.form v f ≡ form_of t v f
    form-is f =
        Asks.row-form (rows_of t) makers v (row_of t v) row_is f
        ∙ ap (λ vs. formula (nat t.kinds (row_of t v)) (get_or t.params (row_of t v) (pos 0)) (part t (row_of t v) t.coefs) (map f vs)) part-is

    asks-made : (f : Values) → whole.asks v f ≡ asks_of t v f
    asks-made f = Asks.row-asks (rows_of t) makers v (row_of t v) row_is f ∙ ap (looked (nat t.kinds (row_of t v)) f) part-is

  asks_none : (v : ℕ) (f : Values) → is_made t v ≡ false → whole.asks v f ≡ asks_of t v f
  asks_none v f e =
      asks-bare whole (Asks.lawful-work (rows_of t) makers) v f (made-is v ∙ e) ∙ sym (asks-bare (net t) (lawful t) v f e)

  pub asks-is : (f : Values) (v : ℕ) → whole.asks v f ≡ asks_of t v f
  asks-is f v = go (is_made t v) refl
    where
      go : (b : Bool) → is_made t v ≡ b → whole.asks v f ≡ asks_of t v f
      go true e = asks-made v e f
      go false e = asks_none v f e

  -- ── its rows ──
  found : (v r : ℕ) → nat makers v ≡ suc r → r < t.m
  found v r e = go (is_made t v) refl (maker-at v)
    where
      go : (b : Bool) → is_made t v ≡ b → nat makers v ≡ cond b (suc (row_of t v)) 0 → r < t.m
      go true q h = let l = made_row t s v q in omega arith
      go false q h = absurd (omega arith)

  pub laid : PartsLent (rows_of t) makers
  laid = record {
    few = let z = (sized-facts t s.sized).n-most in let l = makers-long in omega arith;
    fits = λ v r e values h. row_fits t s r (found v r e) values (let l = makers-long in omega arith);
    inputs = λ v r e. subst (λ n. all (λ u. ltb u n) (part t r t.vars) ≡ true) (sym makers-long) (sound-row t s r (found v r e)).inputs;
  }
