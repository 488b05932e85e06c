-- A walk along the order: each place holds a row of the tables, each row stands somewhere, and a row stands after those that make its inputs.
-- Assumes nothing.
use Prim.Native.Nat.{ℕ, suc, ◌≤◌, ◌<◌}
use native.Mathlib.Omega.{arith}
use mathlib.Core.Bool.{Bool, true, false}
use mathlib.Core.List.{List, [], ◌∷◌, map, Memᴰ}
use mathlib.Core.Path.{◌≡◌, refl, ap, sym, ◌∙◌, subst}
use lib.Dec.{ltb}
use lib.IntN.{ℤ, pos}
use lib.ListN.{length, get_or, take}
use lib.Seq.{get_or-take, length-take-le, take_all}
use borrow.Author.Tests.{ltb-true, ltb-false, lt-ltb}
use Rattle.paper.specs.Lists.{nat}
use Rattle.paper.specs.Formula.{formula}
use Rattle.paper.specs.Tables.{Tables, net, is_made, inputs_of, row_of, part, form_of}
use Rattle.paper.proofs.Straight.{order}
use Rattle.paper.specs.Checks.{Sound}
use Rattle.paper.proofs.Lists.{all_in, all_of}
use Rattle.paper.proofs.Sizes.{sized-facts}
use Rattle.paper.proofs.Accept.{sound-row, row-of, made_row, made_by, row-inputs}
use Rattle.paper.proofs.Lawful.{lawful}
use Rattle.paper.proofs.Numbers.{number-right}
use Rattle.paper.proofs.Order.{order-in, order-has, order-length, inputs-done}
use Rattle.routes.proofs.Members.{at_place}
use Rattle.routes.specs.Rows.{Along, RowFits, row_gives}

-- ── rows and places ──
pub place_of : (l : List ℕ) {x : ℕ} → Memᴰ x l → (j : ℕ) × (j < length l) × (nat l j ≡ x)
place_of (y ∷ ys) (Memᴰ.head q) = (0, omega arith, sym q)
place_of (y ∷ ys) (Memᴰ.tail m) = let (j, h, e) = place_of ys m in (suc j, omega arith, e)
place_of [] x3 = elim x3 [ ]

-- the part of the order that the walk goes along
module _ {t : Tables} {ord : List ℕ} (a : Along t ord) where
  pub front-long : length (take t.m ord) ≡ t.m
  front-long = length-take-le t.m ord a.long

  pub front-along : Along t (take t.m ord)
  front-along = let long = front-long in
      record { sound = a.sound; chains = a.chains; long = omega arith; order_is = take_all t.m (take t.m ord) (omega arith) ∙ a.order_is }

module _ (t : Tables) (ord : List ℕ) (a : Along t ord) where
  same : (j : ℕ) → j < t.m → nat ord j ≡ nat (order t) j
  same j h = sym (get_or-take t.m ord j 0 h) ∙ ap (λ (l : List ℕ). nat l j) a.order_is

  -- each place holds a row
  pub row_at : (j : ℕ) → j < t.m → nat ord j < t.m
  row_at j h = rw (same j h) (order-in t (nat (order t) j) (at_place (order t) j (let k = order-length t in omega arith)))

  -- each made variable is made at some place
  pub made_at : (v : ℕ) → is_made t v ≡ true → (j : ℕ) × (j < t.m) × (nat t.makes (nat ord j) ≡ v)
  made_at v e =
      let (j, h, q) = place_of (order t) (order-has t (row_of t v) (made_row t a.sound v e)) in
      let k : j < t.m = let l = order-length t in omega arith in
      (j, k, ap (nat t.makes) (same j k ∙ q) ∙ made_by t a.sound v e)

  -- an input that is made is made at an earlier place
  pub earlier : (j i : ℕ) → j < t.m → Memᴰ i (inputs_of t (nat t.makes (nat ord j))) → is_made t i ≡ true
      → (q : ℕ) × (q < j) × (nat t.makes (nat ord q) ≡ i)
  earlier j i h m e = let (q, k, w) = made_at i e in go q k w (ltb q j) refl
    where
      go : (q : ℕ) → q < t.m → nat t.makes (nat ord q) ≡ i → (b : Bool) → ltb q j ≡ b → (q : ℕ) × (q < j) × (nat t.makes (nat ord q) ≡ i)
      go q k w true l = (q, ltb-true q j l, w)
      go q k w false l =
          absurd (inputs-done t (number-right (net t) (lawful t) t.n a.chains) j q i (ltb-false q j l) (let z = order-length t in omega arith)
          (subst (λ r. Memᴰ i (inputs_of t (nat t.makes r))) (same j h) m) (sym (ap (nat t.makes) (same q k)) ∙ w))

-- ── what a row gives ──
module _ (t : Tables) (s : Sound t) (r : ℕ) (h : r < t.m) where
  -- its variable's formula, over any row of values
  pub row-form : (l : List ℤ) → row_gives r t.kinds t.params t.firsts t.counts t.vars t.coefs l ≡ form_of t (nat t.makes r) (λ v. get_or l v (pos 0))
  row-form l = sym (
      ap (λ vs. formula (nat t.kinds q) (get_or t.params q (pos 0)) (part t q t.coefs) (map (λ v. get_or l v (pos 0)) vs)) (row-inputs t s r h)
      ∙ ap (λ k. formula (nat t.kinds k) (get_or t.params k (pos 0)) (part t k t.coefs) (map (λ v. get_or l v (pos 0)) (part t r t.vars))) (row-of t s r h))
    where
      q : ℕ
      q = row_of t (nat t.makes r)

  -- the row fits its formula
  pub row_fits : (values : List ℤ) → t.n ≤ length values → RowFits r t.kinds t.params t.firsts t.counts t.vars t.coefs values
  row_fits values k =
      let z = sized-facts t s.sized in let w = sound-row t s r h in let i = w.inside in
      record {
        in-kinds = let y = z.kinds in omega arith;
        in_params = let y = z.params in omega arith;
        in-firsts = let y = z.firsts in omega arith;
        in-counts = let y = z.counts in omega arith;
        suits = record {
          in-coefs = let y = z.coefs in omega arith;
          in-vars = let y = z.vars in omega arith;
          known = s.kinds r h;
          suits = w.suits;
          below = all_of (λ v. ltb v (length values)) (part t r t.vars) (λ v m.
              let l = ltb-true v t.n (all_in (λ u. ltb u t.n) (part t r t.vars) w.inputs m) in lt-ltb v (length values) (omega arith));
        };
      }
