-- Figures are added as numbers are: in any order, from any side, and the figures of a list are those of its moves, one by one. Assumes nothing.
use Prim.Native.Nat.{ℕ, ◌+◌, ◌*◌, ◌≤◌, ◌<◌}
use native.Mathlib.Omega.{arith}
use mathlib.Core.Bool.{Bool, true, false, cond, ◌&&◌}
use mathlib.Core.List.{List, [], ◌∷◌}
use mathlib.Core.Path.{◌≡◌, refl, sym, ap, ap₂, ◌∙◌}
use lib.IntN.{ℤ, pos}
use lib.Dec.{eqb}
use lib.Signed.{le_z}
use Rattle.integers.specs.Integers.{eq_z, away}
use Rattle.integers.proofs.Order.{le_yes, le-no, yes_le, eq_z-yes}
use Rattle.integers.proofs.Parts.{sum_away}
use Rattle.paper.specs.Lists.{tally}
use Rattle.paper.specs.Formula.{blank, lesser, greater}
use Rattle.paper.proofs.Lists.{clash}
use Rattle.figures.proofs.Summed.{level, zero-sum, sum_comm, sum-assoc}
use Rattle.figures.specs.Outcomes.{SmallOutcome}
use Rattle.figures.specs.declared.outcomes.Outcome.{Outcome}
use Rattle.figures.specs.Figures.{results, one_of, values_sum, totals}
use Rattle.figures.specs.Adding.{single, plus, RoomForOne}
use Rattle.figures.specs.declared.Totals.{Totals}

zero-add : (x : ℕ) → 0 + x ≡ x
zero-add x = omega arith

-- ── the lesser and the greater of two ──
-- f leaves one of each two, whichever comes first
record Choice (f : ℤ → ℤ → ℤ) : Type 0 where
  comm : (a b : ℤ) → f a b ≡ f b a
  assoc : (a b c : ℤ) → f (f a b) c ≡ f a (f b c)
  valued : (a b : ℤ) → eq_z a blank ≡ false → eq_z b blank ≡ false → eq_z (f a b) blank ≡ false

-- the first of two by a test that says of each two which comes first
module _ (test : ℤ → ℤ → Bool) (whole : (a b : ℤ) → test a b ≡ false → test b a ≡ true) (same : (a b : ℤ) → test a b ≡ true → test b a ≡ true → a ≡ b)
    (along : (a b c : ℤ) → test a b ≡ true → test b c ≡ true → test a c ≡ true) where
  abbrev first_of : ℤ → ℤ → ℤ
  first_of a b = cond (test a b) a b

  comm : (a b : ℤ) (x y : Bool) → test a b ≡ x → test b a ≡ y → cond x a b ≡ cond y b a
  comm a b true true p q = same a b p q
  comm a b true false p q = refl
  comm a b false true p q = refl
  comm a b false false p q = clash (whole a b p) q

  assoc : (a b c : ℤ) (x y z : Bool) → test a b ≡ x → test b c ≡ y → test a c ≡ z → first_of (cond x a b) c ≡ first_of a (cond y b c)
  assoc a b c true true true p q r = ap (λ t. cond t a c) r ∙ sym (ap (λ t. cond t a b) p)
  assoc a b c true true false p q r = clash (along a b c p q) r
  assoc a b c true false z p q r = refl
  assoc a b c false true z p q r = ap (λ t. cond t b c) q ∙ sym (ap (λ t. cond t a b) p)
  assoc a b c false false true p q r = clash (along b a c (whole a b p) r) q
  assoc a b c false false false p q r = ap (λ t. cond t b c) q ∙ sym (ap (λ t. cond t a c) r)

  valued : (a b : ℤ) (x : Bool) → eq_z a blank ≡ false → eq_z b blank ≡ false → eq_z (cond x a b) blank ≡ false
  valued a b true p q = p
  valued a b false p q = q

  choice : Choice first_of
  choice = record {
    comm = λ a b. comm a b (test a b) (test b a) refl refl;
    assoc = λ a b c. assoc a b c (test a b) (test b c) (test a c) refl refl refl;
    valued = λ a b. valued a b (test a b);
  }

le-whole : (a b : ℤ) → le_z a b ≡ false → le_z b a ≡ true
le-whole a b p = yes_le b a (omega (arith, le-no a b p))

le_same : (a b : ℤ) → le_z a b ≡ true → le_z b a ≡ true → a ≡ b
le_same a b p q = level a b (omega (arith, le_yes a b p, le_yes b a q))

le-along : (a b c : ℤ) → le_z a b ≡ true → le_z b c ≡ true → le_z a c ≡ true
le-along a b c p q = yes_le a c (omega (arith, le_yes a b p, le_yes b c q))

least : Choice lesser
least = choice le_z le-whole le_same le-along

-- the greater is the first from the other end
most : Choice greater
most =
    let back : Choice (first_of (λ a b. le_z b a) (λ a b p. le-whole b a p) (λ a b p q. le_same a b q p) (λ a b c p q. le-along c b a q p)) =
    choice (λ a b. le_z b a) (λ a b p. le-whole b a p) (λ a b p q. le_same a b q p) (λ a b c p q. le-along c b a q p) in
    record { comm = λ a b. back.comm b a; assoc = λ a b c. sym (back.assoc c b a); valued = λ a b p q. back.valued b a q p }

-- ── the same where a blank one is left out ──
module _ (f : ℤ → ℤ → ℤ) (k : Choice f) where
  one-comm : (a b : ℤ) → one_of f a b ≡ one_of f b a
  one-comm a b = go (eq_z a blank) (eq_z b blank) refl refl
    where
      go : (x y : Bool) → eq_z a blank ≡ x → eq_z b blank ≡ y → cond x b (cond y a (f a b)) ≡ cond y a (cond x b (f b a))
      go true true p q = eq_z-yes b blank q ∙ sym (eq_z-yes a blank p)
      go true false p q = refl
      go false true p q = refl
      go false false p q = k.comm a b

  one-assoc : (a b c : ℤ) → one_of f (one_of f a b) c ≡ one_of f a (one_of f b c)
  one-assoc a b c = go (eq_z a blank) (eq_z b blank) (eq_z c blank) refl refl refl
    where
      go : (x y z : Bool) → eq_z a blank ≡ x → eq_z b blank ≡ y → eq_z c blank ≡ z
          → one_of f (cond x b (cond y a (f a b))) c ≡ cond x (cond y c (cond z b (f b c))) (cond (eq_z (cond y c (cond z b (f b c))) blank) a (f a (cond y c (cond z b (f b c)))))
      go true y z p q r = ap (λ t. cond t c (cond (eq_z c blank) b (f b c))) q ∙ ap (λ t. cond y c (cond t b (f b c))) r
      go false true z p q r = ap (λ t. cond t c (cond (eq_z c blank) a (f a c))) p
      go false false true p q r =
          ap₂ (λ s t. cond s c (cond t (f a b) (f (f a b) c))) (k.valued a b p q) r ∙ sym (ap (λ t. cond t a (f a b)) q)
      go false false false p q r =
          ap₂ (λ s t. cond s c (cond t (f a b) (f (f a b) c))) (k.valued a b p q) r ∙ k.assoc a b c ∙ sym (ap (λ t. cond t a (f a (f b c))) (k.valued b c q r))

-- ── figures ──
pub plus_assoc : (a b c : Totals) → plus (plus a b) c ≡ plus a (plus b c)
plus_assoc a b c = λ i. record {
  blank = add a.blank b.blank c.blank i;
  least = one-assoc lesser least a.least b.least c.least i;
  greatest = one-assoc greater most a.greatest b.greatest c.greatest i;
  sum = sum-assoc a.sum b.sum c.sum i;
  first = add a.first b.first c.first i;
  second = add a.second b.second c.second i;
  third = add a.third b.third c.third i;
}
  where
    add : (x y z : ℕ) → (x + y) + z ≡ x + (y + z)
    add x y z = omega arith

pub plus_comm : (a b : Totals) → plus a b ≡ plus b a
plus_comm a b = λ i. record {
  blank = add a.blank b.blank i;
  least = one-comm lesser least a.least b.least i;
  greatest = one-comm greater most a.greatest b.greatest i;
  sum = sum_comm a.sum b.sum i;
  first = add a.first b.first i;
  second = add a.second b.second i;
  third = add a.third b.third i;
}
  where
    add : (x y : ℕ) → x + y ≡ y + x
    add x y = omega arith

-- none adds nothing
pub none-plus : (a : Totals) → plus (totals []) a ≡ a
none-plus a = λ i. record {
  blank = zero-add a.blank i;
  least = a.least;
  greatest = a.greatest;
  sum = zero-sum a.sum i;
  first = zero-add a.first i;
  second = zero-add a.second i;
  third = zero-add a.third i;
}

pub plus_none : (a : Totals) → plus a (totals []) ≡ a
plus_none a = plus_comm a (totals []) ∙ none-plus a

-- one move, and the rest
pub totals-next : (o : Outcome) (os : List Outcome) → totals (o ∷ os) ≡ plus (single o) (totals os)
totals-next o os = go (eqb o.number 0) refl
  where
    go : (b : Bool) → eqb o.number 0 ≡ b → totals (o ∷ os) ≡ plus (single o) (totals os)
    go true e = simp e
    go false e = simp (e, zero-sum (values_sum (results os)), zero-add (tally (λ x. eq_z x blank) (results os)))

-- ── how large they grow ──
pub bit-low : (x : Bool) (r : ℕ) → r ≡ cond x 1 0 → r ≤ 1
bit-low true r e = omega arith
bit-low false r e = omega arith

-- the figures of i moves
pub record Bounded (i : ℕ) (t : Totals) : Type 0 where
  pub blank : t.blank ≤ i
  pub sum : away t.sum ≤ i * 2147483648
  pub first : t.first ≤ i * 4096
  pub second : t.second ≤ i * 4096
  pub third : t.third ≤ i * 4096

pub bounded-none : Bounded 0 (totals [])
bounded-none = record { blank = omega arith; sum = omega arith; first = omega arith; second = omega arith; third = omega arith }

pub bounded-room : (i : ℕ) (t : Totals) → Bounded i t → i < 1000 → RoomForOne t
bounded-room i t b l = record {
  blank = omega (arith, b.blank);
  sum = omega (arith, b.sum);
  first = omega (arith, b.first);
  second = omega (arith, b.second);
  third = omega (arith, b.third);
}

pub bounded-next : (i : ℕ) (t : Totals) (o : Outcome) → Bounded i t → SmallOutcome o → Bounded (i + 1) (plus t (single o))
bounded-next i t o b s = record {
  blank = go (eqb o.number 0 && eq_z o.result blank) b.blank;
  sum = let h = b.sum in let k = sum_away t.sum (single o).sum in let l = value (eqb o.number 0) in omega arith;
  first = let h = b.first in let k = s.first in omega arith;
  second = let h = b.second in let k = s.second in omega arith;
  third = let h = b.third in let k = s.third in omega arith;
}
  where
    go : (x : Bool) → t.blank ≤ i → t.blank + cond x 1 0 ≤ i + 1
    go true h = omega arith
    go false h = omega arith

    value : (x : Bool) → let y = cond x o.result blank in away (cond (eq_z y blank) (pos 0) y) ≤ 2147483648
    value true = valued (eq_z o.result blank)
      where
        valued : (z : Bool) → away (cond z (pos 0) o.result) ≤ 2147483648
        valued true = omega arith
        valued false = s.result
    value false = omega arith
