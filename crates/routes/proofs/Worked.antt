-- Working all rows out along the order: a row's inputs have their values when the walk comes to it, so it gets its own. Assumes nothing.
use Prim.Native.Nat.{ℕ, ◌+◌, ◌≤◌, ◌<◌}
use native.Mathlib.Omega.{arith}
use mathlib.Core.Bool.{Bool, true, false, cond}
use mathlib.Core.List.{List, Memᴰ}
use mathlib.Core.Path.{◌≡◌, refl, ap, sym, ◌∙◌, subst}
use lib.Dec.{eqb, ltb}
use lib.IntN.{ℤ, pos}
use lib.ListN.{length, get_or, drop, set, length-set}
use lib.Seq.{get_or-set_same, get_or-set_other, get_or-take, drop-set-lt}
use borrow.Author.Tests.{eqb-true, eqb-false, ltb-true, ltb-false}
use Rattle.paper.specs.Lists.{nat, over}
use Rattle.paper.specs.Net.{Values, afresh}
use Rattle.paper.specs.Tables.{Tables, net, is_made, inputs_of, form_of, values_in}
use Rattle.paper.proofs.Lists.{clash}
use Rattle.paper.proofs.Buffers.{over-of}
use Rattle.paper.proofs.Accept.{sound-row, row-is-made, inputs-below}
use Rattle.paper.proofs.Lawful.{lawful}
use Rattle.paper.proofs.Fresh.{form-same, afresh-equation, afresh-search}
use Rattle.routes.specs.Rows.{Along, row_gives}
use Rattle.routes.proofs.Walks.{row_at, made_at, earlier, row-form}

-- after the first j places of the order
pub record Working (t : Tables) (ord : List ℕ) (start : List ℤ) (j : ℕ) (now : List ℤ) : Type 0 where
  pub long : length now ≡ length start
  pub beyond : drop t.n now ≡ drop t.n start
  pub search : (v : ℕ) → v < t.n → is_made t v ≡ false → get_or now v (pos 0) ≡ get_or start v (pos 0)
  pub done : (i : ℕ) → i < j → get_or now (nat t.makes (nat ord i)) (pos 0) ≡ afresh (net t) (values_in t start) t.n (nat t.makes (nat ord i))

module _ (t : Tables) (ord : List ℕ) (a : Along t ord) (start : List ℤ) (room : t.n ≤ length start) where
  -- the values that the walk comes to, and the variable made at place j
  abbrev goal : Values
  goal = afresh (net t) (values_in t start) t.n

  abbrev made : ℕ → ℕ
  made j = nat t.makes (nat ord j)

  searched : (now : List ℤ) (j : ℕ) → Working t ord start j now → (v : ℕ) → v < t.n → is_made t v ≡ false → get_or now v (pos 0) ≡ goal v
  searched now j w v l e =
      w.search v l e ∙ sym (get_or-take t.n start v (pos 0) l) ∙ sym (afresh-search (net t) (lawful t) t.n a.chains (values_in t start) v e)

  module _ (j : ℕ) (now : List ℤ) (w : Working t ord start j now) (h : j < t.m) where
    low : made j < t.n
    low = (sound-row t a.sound (nat ord j) (row_at t ord a j h)).makes

    made-here : is_made t (made j) ≡ true
    made-here = row-is-made t a.sound (nat ord j) (row_at t ord a j h)

    -- the inputs have their values
    input : (i : ℕ) → Memᴰ i (inputs_of t (made j)) → get_or now i (pos 0) ≡ goal i
    input i m = go (is_made t i) refl
      where
        go : (b : Bool) → is_made t i ≡ b → get_or now i (pos 0) ≡ goal i
        go true e = let (q, k, p) = earlier t ord a j i h m e in subst (λ u. get_or now u (pos 0) ≡ goal u) p (w.done q k)
        go false e = searched now j w i (inputs-below t a.sound (made j) i m) e

    -- so the row gives its variable's
    gives : row_gives (nat ord j) t.kinds t.params t.firsts t.counts t.vars t.coefs now ≡ goal (made j)
    gives =
        row-form t a.sound (nat ord j) (row_at t ord a j h) now
        ∙ form-same (net t) (lawful t) (made j) (λ v. get_or now v (pos 0)) goal input
        ∙ sym (afresh-equation (net t) (lawful t) t.n a.chains (values_in t start) (made j)
        ∙ ap (λ b. cond b (form_of t (made j) goal) (values_in t start (made j))) made-here)

    pub working-next : (x : ℤ) → x ≡ row_gives (nat ord j) t.kinds t.params t.firsts t.counts t.vars t.coefs now → Working t ord start (j + 1) (set now (made j) x)
    working-next x e = rw (e ∙ gives) (record {
      long = length-set now (made j) (goal (made j)) ∙ w.long;
      beyond = drop-set-lt t.n now (made j) (goal (made j)) low ∙ w.beyond;
      search = λ v l s. get_or-set_other now (made j) v (goal (made j)) (pos 0) (λ q. clash made-here (ap (is_made t) (sym q) ∙ s)) ∙ w.search v l s;
      done = λ i l. put i (ltb i j) refl l (eqb (made j) (made i)) refl;
    })
      where
        here : made j < length now
        here = let l = low in let k = w.long in omega arith

        put : (i : ℕ) (b : Bool) → ltb i j ≡ b → i < j + 1 → (c : Bool) → eqb (made j) (made i) ≡ c → get_or (set now (made j) (goal (made j))) (made i) (pos 0) ≡ goal (made i)
        put i b k l true q = let p = eqb-true (made j) (made i) q in subst (λ u. get_or (set now (made j) (goal (made j))) u (pos 0) ≡ goal u) p (get_or-set_same now (made j) (goal (made j)) (pos 0) here)
        put i true k l false q = get_or-set_other now (made j) (made i) (goal (made j)) (pos 0) (λ p. eqb-false (made j) (made i) q (sym p)) ∙ w.done i (ltb-true i j k)
        put i false k l false q = let p : i ≡ j = let g = ltb-false i j k in omega arith in absurd (eqb-false (made j) (made i) q (ap made (sym p)))

  pub working-end : (now : List ℤ) → Working t ord start t.m now → now ≡ over t.n goal start
  working-end now w = over-of goal t.n start now (pos 0) w.long room (λ v l. go v l (is_made t v) refl) w.beyond
    where
      go : (v : ℕ) → v < t.n → (b : Bool) → is_made t v ≡ b → get_or now v (pos 0) ≡ goal v
      go v l true e = let (q, k, p) = made_at t ord a v e in subst (λ u. get_or now u (pos 0) ≡ goal u) p (w.done q k)
      go v l false e = searched now t.m w v l e
