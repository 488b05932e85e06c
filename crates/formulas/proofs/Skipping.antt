-- MIN and MAX one step along the inputs. The walk holds what stands for some input which, at the head of those from i on, leaves what all leave. Of two
-- inputs it leaves one that has a value before a blank, and of two values the lesser or the greater. Assumes nothing.
use Prim.Native.Nat.{ℕ, ◌+◌, ◌≤◌, ◌<◌}
use native.Mathlib.Omega.{arith}
use mathlib.Core.Bool.{Bool, true, false, cond}
use mathlib.Core.List.{List, [], ◌∷◌}
use mathlib.Core.Path.{◌≡◌, refl, ap, sym, ◌∙◌}
use borrow.Author.Tests.{le-leb, eqb-false}
use lib.IntN.{ℤ, pos, negsuc, nat_abs, ◌+ℤ◌, ◌-ℤ◌, +ℤ_assoc, +ℤ_idr}
use lib.ListN.{length, drop}
use lib.Signed.{lt_z, le_z}
use Rattle.std.specs.Int.{int_min, int_max}
use mir.Syntax.{w32}
use mir.Val.{SFits}
use Rattle.integers.specs.Integers.{up, dn, eq_z}
use Rattle.integers.proofs.Parts.{one-part, dif-bal}
use Rattle.integers.proofs.Order.{lt_yes, lt_no, le_yes, le-no, yes_le, no_le, eq_z-yes, nat_abs-away}
use Rattle.integers.proofs.Ranges.{fits-parts}
use Rattle.paper.specs.Formula.{blank, fit, lesser, greater, valued, extreme, input_at}
use Rattle.formulas.specs.Inputs.{inputs}
use Rattle.formulas.proofs.Reading.{next-input, no-input}
use Rattle.formulas.specs.Standing.{stands_as, stands_for}

-- which of two numbers the walk leaves
abbrev choice : Bool → ℤ → ℤ → ℤ
choice max = cond max greater lesser

-- what holds of both numbers holds of the one that is left
either : (P : ℤ → Type 0) (t : Bool) {a b : ℤ} → P a → P b → P (cond t a b)
either P true p q = p
either P false p q = q

of-choice : (P : ℤ → Type 0) (max : Bool) {a b : ℤ} → P a → P b → P (choice max a b)
of-choice P true {a} {b} p q = either P (le_z a b) q p
of-choice P false {a} {b} p q = either P (le_z a b) p q

-- ── an input that has a value ──
pub record HasValue (x : ℤ) : Type 0 where
  pub not-blank : eq_z x blank ≡ false
  pub high : up x ≤ 2147483647
  pub low : dn x ≤ 2147483647

pub has_value : (x : ℤ) → SFits w32 x → eq_z x blank ≡ false → HasValue x
has_value (pos n) f e = record { not-blank = e; high = omega (arith, fits-parts w32 (pos n) f); low = omega arith }
has_value (negsuc n) f e = record { not-blank = e; high = omega arith; low = omega (arith, fits-parts w32 (negsuc n) f, eqb-false n 2147483647 e) }

-- ── what stands for an input ──
stands-back : (max : Bool) (x : ℤ) → SFits w32 x → stands_for max (stands_as max x) ≡ x
stands-back true x f = refl
stands-back false x f = go (eq_z x blank) refl
  where
    go : (b : Bool) → eq_z x blank ≡ b → fit (cond b (pos 2147483647) (x -ℤ pos 1) +ℤ pos 1) ≡ x
    go true e = sym (eq_z-yes x blank e)
    go false e =
        let v = has_value x f e in
        ap fit (+ℤ_assoc x (negsuc 0) (pos 1) ∙ +ℤ_idr x)
        ∙ ap (λ t. cond t x blank) (le-leb (nat_abs x) 2147483647 (omega (arith, v.high, v.low, nat_abs-away x, one-part x)))

-- ── of two inputs ──
-- a blank one is skipped
abbrev skip : Bool → ℤ → ℤ → ℤ
skip max y x = cond (eq_z y blank) x (cond (eq_z x blank) y (choice max y x))

module _ (y x : ℤ) (f : SFits w32 y) (g : SFits w32 x) where
  skip-fits : (max : Bool) → SFits w32 (skip max y x)
  skip-fits max = either (SFits w32) (eq_z y blank) g (either (SFits w32) (eq_z x blank) f (of-choice (SFits w32) max f g))

  -- blanks below all values
  most : greater y x ≡ skip true y x
  most = go (eq_z y blank) (eq_z x blank) refl refl
    where
      go : (b c : Bool) → eq_z y blank ≡ b → eq_z x blank ≡ c → greater y x ≡ cond b x (cond c y (greater y x))
      go true c d e = ap (λ t. cond t x y) (yes_le y x (omega (arith, fits-parts w32 x g, ap up (eq_z-yes y blank d), ap dn (eq_z-yes y blank d))))
      go false true d e = ap (λ t. cond t x y) (no_le y x (omega (arith, (has_value y f d).low, ap up (eq_z-yes x blank e), ap dn (eq_z-yes x blank e))))
      go false false d e = refl

  -- blanks above them
  lower : (t : Bool) → le_z y x ≡ t → lesser (y -ℤ pos 1) (x -ℤ pos 1) ≡ cond t y x -ℤ pos 1
  lower true e = ap (λ t. cond t (y -ℤ pos 1) (x -ℤ pos 1)) (yes_le (y -ℤ pos 1) (x -ℤ pos 1) (omega (arith, le_yes y x e, dif-bal y (pos 1), dif-bal x (pos 1))))
  lower false e = ap (λ t. cond t (y -ℤ pos 1) (x -ℤ pos 1)) (no_le (y -ℤ pos 1) (x -ℤ pos 1) (omega (arith, le-no y x e, dif-bal y (pos 1), dif-bal x (pos 1))))

  least : lesser (stands_as false y) (stands_as false x) ≡ stands_as false (skip false y x)
  least = go (eq_z y blank) (eq_z x blank) refl refl
    where
      top : ℤ
      top = pos 2147483647

      known : (z : ℤ) {b : Bool} → eq_z z blank ≡ b → cond b top (z -ℤ pos 1) ≡ stands_as false z
      known z e = ap (λ t. cond t top (z -ℤ pos 1)) (sym e)

      go : (b c : Bool) → eq_z y blank ≡ b → eq_z x blank ≡ c → lesser (cond b top (y -ℤ pos 1)) (cond c top (x -ℤ pos 1)) ≡ stands_as false (cond b x (cond c y (lesser y x)))
      go true true d e = known x e
      go true false d e = ap (λ t. cond t top (x -ℤ pos 1)) (no_le top (x -ℤ pos 1) (omega (arith, (has_value x g e).high, dif-bal x (pos 1)))) ∙ known x e
      go false true d e = ap (λ t. cond t (y -ℤ pos 1) top) (yes_le (y -ℤ pos 1) top (omega (arith, (has_value y f d).high, dif-bal y (pos 1)))) ∙ known y d
      go false false d e = lower (le_z y x) refl ∙ known (lesser y x) (of-choice HasValue false (has_value y f d) (has_value x g e)).not-blank

  -- what the walk leaves stands for the one that is not skipped
  standing : (max : Bool) → choice max (stands_as max y) (stands_as max x) ≡ stands_as max (skip max y x)
  standing true = most
  standing false = least

  -- and that one leaves what the two leave
  skipped : (max : Bool) (xs : List ℤ) → extreme (choice max) (valued (y ∷ x ∷ xs)) ≡ extreme (choice max) (valued (skip max y x ∷ xs))
  skipped max xs = go (eq_z y blank) (eq_z x blank) refl refl
    where
      known : (z : ℤ) {b : Bool} → eq_z z blank ≡ b → extreme (choice max) (cond b (valued xs) (z ∷ valued xs)) ≡ extreme (choice max) (valued (z ∷ xs))
      known z e = ap (λ t. extreme (choice max) (cond t (valued xs) (z ∷ valued xs))) (sym e)

      go : (b c : Bool) → eq_z y blank ≡ b → eq_z x blank ≡ c → let rest = cond c (valued xs) (x ∷ valued xs) in
          extreme (choice max) (cond b rest (y ∷ rest)) ≡ extreme (choice max) (valued (cond b x (cond c y (choice max y x)) ∷ xs))
      go true c d e = known x e
      go false true d e = known y d
      go false false d e = known (choice max y x) (of-choice HasValue max (has_value y f d) (has_value x g e)).not-blank

-- the lesser, as the method of the numbers has it
pub min-lesser : (a b : ℤ) → int_min a b ≡ lesser a b
min-lesser a b = go (lt_z b a) refl
  where
    go : (t : Bool) → lt_z b a ≡ t → cond t b a ≡ lesser a b
    go true e = ap (λ t. cond t a b) (sym (no_le a b (lt_yes b a e)))
    go false e = ap (λ t. cond t a b) (sym (yes_le a b (lt_no b a e)))

-- and the greater
pub max-greater : (a b : ℤ) → int_max a b ≡ greater a b
max-greater a b = go (lt_z b a) refl
  where
    go : (t : Bool) → lt_z b a ≡ t → cond t a b ≡ greater a b
    go true e = ap (λ t. cond t b a) (sym (no_le a b (lt_yes b a e)))
    go false e = ap (λ t. cond t b a) (sym (yes_le a b (lt_no b a e)))

-- ── the walk ──
-- what it holds past the inputs before i stands for an input that leaves, with those from i on, what all leave
pub record Left (max : Bool) (vars : List ℕ) (values : List ℤ) (i : ℕ) (z : ℤ) : Type 0 where
  pub best : ℤ
  pub fits : SFits w32 best
  pub stands : z ≡ stands_as max best
  pub so_far : extreme (choice max) (valued (best ∷ drop i (inputs vars values))) ≡ extreme (choice max) (valued (inputs vars values))

module _ {max : Bool} {vars : List ℕ} {values : List ℤ} where
  pub left-first : {x z : ℤ} → 0 < length vars → SFits w32 x → x ≡ input_at (inputs vars values) 0 → z ≡ stands_as max x → Left max vars values 1 z
  left-first {x} h f e q =
      record { best = x; fits = f; stands = q; so_far = ap (λ l. extreme (choice max) (valued l)) (ap (λ y. y ∷ drop 1 (inputs vars values)) e ∙ sym (next-input vars values 0 h)) }

  pub left-next : {i : ℕ} {x z y : ℤ} → Left max vars values i z → i < length vars → SFits w32 x → x ≡ input_at (inputs vars values) i
      → y ≡ choice max z (stands_as max x) → Left max vars values (i + 1) y
  left-next {i} {x} l h f e q =
      let b = l.best in
      let rest = drop (i + 1) (inputs vars values) in
      record {
        best = skip max b x;
        fits = skip-fits b x l.fits f max;
        stands = q ∙ ap (λ z. choice max z (stands_as max x)) l.stands ∙ standing b x l.fits f max;
        so_far = sym (skipped b x l.fits f max rest) ∙ ap (λ l. extreme (choice max) (valued (b ∷ l))) (ap (λ y. y ∷ rest) e ∙ sym (next-input vars values i h)) ∙ l.so_far;
      }

  pub left-all : {i : ℕ} {z : ℤ} → Left max vars values i z → length vars ≤ i → stands_for max z ≡ extreme (choice max) (valued (inputs vars values))
  left-all {i} l h =
      ap (stands_for max) l.stands ∙ stands-back max l.best l.fits ∙ go (eq_z l.best blank) refl
      ∙ ap (λ xs. extreme (choice max) (valued (l.best ∷ xs))) (sym (no-input vars values i h)) ∙ l.so_far
    where
      go : (b : Bool) → eq_z l.best blank ≡ b → l.best ≡ extreme (choice max) (cond b [] (l.best ∷ []))
      go true e = eq_z-yes l.best blank e
      go false e = refl

-- one step of MIN
pub least-next : {vars : List ℕ} {values : List ℤ} {i : ℕ} {x z s y : ℤ} → Left false vars values i z → i < length vars → SFits w32 x → x ≡ input_at (inputs vars values) i
    → s ≡ stands_as false x → y ≡ int_min z s → Left false vars values (i + 1) y
least-next {x = x} {z} {s} l h f e q r = left-next l h f e (r ∙ min-lesser z s ∙ ap (lesser z) q)
