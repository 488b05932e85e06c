-- LINEAR's sum one step along the inputs, as the loop goes. Assumes nothing.
use Prim.Native.Nat.{ℕ, ◌+◌, ◌*◌, ◌≤◌, ◌<◌}
use native.Mathlib.Omega.{arith}
use mathlib.Core.Bool.{Bool, false, ◌||◌, or-false, or_assoc}
use mathlib.Core.List.{List, [], ◌∷◌}
use mathlib.Core.Path.{◌≡◌, refl, ap, sym, ◌∙◌}
use lib.IntN.{ℤ, pos, ◌+ℤ◌, ◌*ℤ◌, +ℤ_assoc, +ℤ_idr}
use lib.ListN.{length, get_or, drop}
use mir.Syntax.{w16, w32}
use mir.Val.{SFits}
use Rattle.integers.specs.Integers.{away, eq_z}
use Rattle.integers.proofs.Parts.{sum_away, mul-bound}
use Rattle.integers.proofs.Ranges.{fits-away}
use Rattle.paper.specs.Formula.{blank, some_blank, sum, input_at}
use Rattle.paper.proofs.Scan.{next}
use Rattle.formulas.specs.Inputs.{inputs}
use Rattle.formulas.proofs.Reading.{next-input, no-input}

-- z is the parameter and the terms before i, and met says whether one of their inputs is blank; each term takes 47 bits
pub record Summed (param : ℤ) (coefs : List ℤ) (vars : List ℕ) (values : List ℤ) (i : ℕ) (met : Bool) (z : ℤ) : Type 0 where
  pub so_far : z +ℤ sum (drop i coefs) (drop i (inputs vars values)) ≡ param +ℤ sum coefs (inputs vars values)
  pub noted : (met || some_blank (drop i (inputs vars values))) ≡ some_blank (inputs vars values)
  pub room : away z ≤ 2147483648 + i * 70368744177664

pub term-room : (c x : ℤ) → SFits w16 c → SFits w32 x → away (c *ℤ x) ≤ 70368744177664
term-room c x f g = mul-bound c x 32768 2147483648 (fits-away w16 c f) (fits-away w32 x g)

no-terms : (coefs : List ℤ) → sum coefs [] ≡ pos 0
no-terms [] = refl
no-terms (c ∷ coefs) = refl

module _ {param : ℤ} {coefs : List ℤ} {vars : List ℕ} {values : List ℤ} where
  pub summed-none : {z : ℤ} → SFits w32 param → z ≡ param → Summed param coefs vars values 0 false z
  summed-none f e = rw e (record { so_far = refl; noted = refl; room = fits-away w32 param f })

  pub summed-next : {i : ℕ} {met t : Bool} {z y : ℤ} → Summed param coefs vars values i met z → i < length coefs → i < length vars → t ≡ eq_z (input_at (inputs vars values) i) blank
      → let term = get_or coefs i (pos 0) *ℤ input_at (inputs vars values) i in y ≡ z +ℤ term → away term ≤ 70368744177664 → Summed param coefs vars values (i + 1) (met || t) y
  summed-next {i} {met} {t} {z} {y} s g h b e r =
      let term = get_or coefs i (pos 0) *ℤ input_at (inputs vars values) i in let left = some_blank (drop (i + 1) (inputs vars values)) in
      rw e (record {
        so_far = +ℤ_assoc z term (sum (drop (i + 1) coefs) (drop (i + 1) (inputs vars values))) ∙ (rw (next coefs i (pos 0) g, next-input vars values i h) at s.so_far);
        noted = or_assoc met t left ∙ ap (λ x. met || (x || left)) b ∙ (rw (next-input vars values i h) at s.noted);
        room = omega (arith, s.room, sum_away z term);
      })

  pub summed-all : {i : ℕ} {met : Bool} {z : ℤ} → Summed param coefs vars values i met z → length vars ≤ i
      → (some_blank (inputs vars values) ≡ met) × (z ≡ param +ℤ sum coefs (inputs vars values))
  summed-all {i} {met} {z} s h = (sym (rw (no-input vars values i h, or-false met) at s.noted), rw (no-input vars values i h, no-terms (drop i coefs), +ℤ_idr z) at s.so_far)
