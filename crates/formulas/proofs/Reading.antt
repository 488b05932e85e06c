-- A row's inputs place by place. Assumes nothing.
use Prim.Native.Nat.{ℕ, zero, suc, ◌+◌, ◌-◌, ◌≤◌, ◌<◌}
use native.Mathlib.Omega.{arith}
use mathlib.Core.Bool.{◌||◌, or-false, or_assoc}
use mathlib.Core.List.{List, [], ◌∷◌}
use mathlib.Core.Path.{◌≡◌, refl, ap, sym, ◌∙◌}
use lib.IntN.{ℤ, pos}
use lib.ListN.{length, get_or, take, drop, length-map, drop_of_length-le}
use lib.Seq.{take_all, get_or-take, get_or-drop}
use Rattle.integers.specs.Integers.{eq_z}
use Rattle.paper.specs.Lists.{nat}
use Rattle.paper.specs.Formula.{blank, input_at, some_blank}
use Rattle.paper.proofs.Buffers.{Filled, below-list}
use Rattle.paper.proofs.Scan.{next}
use Rattle.formulas.specs.Inputs.{inputs}

module _ (vars : List ℕ) (values : List ℤ) where
  pub inputs-length : length (inputs vars values) ≡ length vars
  inputs-length = length-map vars (λ (v : ℕ). get_or values v (pos 0))

  pub next-input : (i : ℕ) → i < length vars → drop i (inputs vars values) ≡ input_at (inputs vars values) i ∷ drop (i + 1) (inputs vars values)
  next-input i h = next (inputs vars values) i blank (rw inputs-length h)

  pub no-input : (i : ℕ) → length vars ≤ i → drop i (inputs vars values) ≡ []
  no-input i h = let k : length (inputs vars values) ≤ i = rw inputs-length h in drop_of_length-le (inputs vars values) k

  -- a row that they have been copied to
  pub copied : {before row : List ℤ} {i : ℕ} → Filled (λ k. input_at (inputs vars values) k) before row i → i ≡ length vars → take (length vars) row ≡ inputs vars values
  copied {before} {row} {i} s e =
      let xs = inputs vars values in let long = inputs-length in
      ap (λ (k : ℕ). take k row) (sym e) ∙ s.front ∙ below-list xs blank i (omega arith) ∙ take_all i xs (omega arith)

pub inputs-at : (vars : List ℕ) (values : List ℤ) (i : ℕ) → i < length vars → input_at (inputs vars values) i ≡ get_or values (nat vars i) (pos 0)
inputs-at [] values i h = absurd (omega arith)
inputs-at (v ∷ vars) values zero h = refl
inputs-at (v ∷ vars) values (suc i) h = inputs-at vars values i (omega arith)

-- the value of the variable in place i, or in place i of all but the first
pub this-input : (vars : List ℕ) (values : List ℤ) (i v : ℕ) → i < length vars → v ≡ nat vars i → get_or values v (pos 0) ≡ input_at (inputs vars values) i
this-input vars values i v h e = ap (λ u. get_or values u (pos 0)) e ∙ sym (inputs-at vars values i h)

pub later-input : (vars : List ℕ) (values : List ℤ) (i v : ℕ) → i + 1 < length vars → v ≡ nat (take (length vars - 1) (drop 1 vars)) i → get_or values v (pos 0) ≡ input_at (inputs vars values) (i + 1)
later-input vars values i v h e = let q : 1 + i ≡ i + 1 = omega arith in this-input vars values (i + 1) v h (e ∙ get_or-take (length vars - 1) (drop 1 vars) i 0 (omega arith) ∙ get_or-drop 1 vars i 0 ∙ ap (nat vars) q)

-- ── whether one of two or of three is blank ──
pub two-blank : (vars : List ℕ) (values : List ℤ) → length vars ≡ 2
    → let xs = inputs vars values in (eq_z (input_at xs 0) blank || eq_z (input_at xs 1) blank) ≡ some_blank xs
two-blank [] values e = absurd (omega arith)
two-blank (v ∷ []) values e = absurd (omega arith)
two-blank (v ∷ w ∷ []) values e = ap (eq_z (get_or values v (pos 0)) blank ||◌) (sym (or-false _))
two-blank (v ∷ w ∷ u ∷ vars) values e = absurd (omega arith)

pub three-blank : (vars : List ℕ) (values : List ℤ) → length vars ≡ 3
    → let xs = inputs vars values in ((eq_z (input_at xs 0) blank || eq_z (input_at xs 1) blank) || eq_z (input_at xs 2) blank) ≡ some_blank xs
three-blank [] values e = absurd (omega arith)
three-blank (v ∷ vars) values e = let two : length vars ≡ 2 = omega arith in
    let xs = inputs vars values in
    or_assoc (eq_z (get_or values v (pos 0)) blank) (eq_z (input_at xs 0) blank) (eq_z (input_at xs 1) blank) ∙ ap (eq_z (get_or values v (pos 0)) blank ||◌) (two-blank vars values two)
