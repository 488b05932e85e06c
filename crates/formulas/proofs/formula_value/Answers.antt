-- The two parts handed on are the ones that the row names, and a known code picks the formula. Assumes nothing.
use native.Mathlib.Omega.{arith}
use Prim.Native.Nat.{ℕ, ◌+◌, ◌-◌}
use mathlib.Core.Bool.{true}
use mathlib.Core.List.{List}
use mathlib.Core.Path.{◌≡◌, ◌∙◌}
use lib.IntN.{ℤ}
use mir.Syntax.{w32}
use mir.Facts.{to_z-of_z}
use Rattle.integers.proofs.Bits.{told}
use Rattle.std.specs.Prelude.{Option, Some}
use Rattle.paper.specs.Lists.{between}
use Rattle.paper.specs.Formula.{formula}
use Rattle.formulas.specs.Row.{worked}
use Rattle.formulas.proofs.Rows.{part-within}
use Rattle.formulas.proofs.formula_value.Goals as goal

-- ── a known code ──
known : (kind : ℕ) (param : ℤ) (coefs xs : List ℤ) → between 1 kind 9 ≡ true → ◌≡◌ {A = Option ℤ} (worked kind param coefs xs) (Some (formula kind param coefs xs))
unfolding worked
known kind param coefs xs h = simp h

same-value : {w : Option ℤ} {a b : ℤ} → w ≡ Some a → w ≡ Some b → a ≡ b
same-value p q = cc

pub invariant_of-row : goal.invariant_of-row
invariant_of-row c =
    let e : c.args.first + c.args.count - c.args.first ≡ c.args.count = omega arith in
    record { within = simp e (part-within c.requires) }

pub unwrap-requires : goal.unwrap-requires
unwrap-requires c = rw (c.formula.ensures ∙ known _ _ _ _ c.requires.known)

pub returns : goal.returns
returns c =
    let e : c.args.first + c.args.count - c.args.first ≡ c.args.count = omega arith in
    let gave = (simp (e, to_z-of_z c.ranges.param) at c.formula.ensures) ∙ known _ _ _ _ c.requires.known in
    told w32 c.unwrap.type_inv (same-value c.unwrap.ensures gave)
