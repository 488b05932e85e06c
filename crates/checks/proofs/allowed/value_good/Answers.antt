-- Whether the variable is made picks one of the two tests (`one-of`). Assumes nothing.
use mathlib.Core.Bool.{Bool, true, false, cond, not, ◌&&◌, ◌||◌}
use mathlib.Core.Path.{◌≡◌, refl, ap₂, ◌∙◌}
use denote.Enum.Bare.{sameb}
use lib.IntN.{pos}
use mir.Syntax.{w32}
use mir.Facts.{to_z-of_z, sfits_lit}
use Rattle.integers.proofs.Bits.{eqb-bits}
use Rattle.checks.specs.Allowed.{starts}
use Rattle.checks.specs.declared.allowed.Values.{Values}
use Rattle.checks.specs.declared.allowed.Values.TheVariants.{Start, Stored}
use Rattle.checks.specs.contracts.allowed.Values.{the_type}
use Rattle.checks.proofs.allowed.value_good.Goals as goal

-- one of two tests, with no branch
one-of : (made a x b y : Bool) → a ≡ x → b ≡ y → ((made && a) || (not made && b)) ≡ cond made x y
one-of true true x b y p q = p
one-of true false x b y p q = p
one-of false a x b y p q = q

stored-is : (w : Values) → sameb the_type w Stored ≡ not (starts w)
stored-is Start = refl
stored-is Stored = refl

pub returns : goal.returns
returns c =
    let f = c.ranges in
    one-of c.args.made _ _ _ _
    (ap₂ ◌||◌ (c.eq.ensures ∙ stored-is c.args.whose) (eqb-bits w32 c.args.value (pos 0) f.value (sfits_lit tt)))
    (ap₂ (λ p q. not p && q)
    (simp (to_z-of_z f.value) at c.is_blank.ensures)
    (simp (to_z-of_z f.low, to_z-of_z f.value, to_z-of_z f.high) at c.between.ensures))
