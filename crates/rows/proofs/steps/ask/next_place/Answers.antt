-- Each return is one case of the definition: another kind, a candidate or a negative index, and an index inside the part or past its end.
-- Assumes nothing.
use Prim.Native.Nat.{ℕ, ◌+◌, min}
use native.Mathlib.Omega.{arith}
use mathlib.Core.Bool.{true, false, true≢false}
use mathlib.Core.Path.{◌≡◌, refl, ◌∙◌}
use borrow.Author.Tests.{eq-eqb, ne_eqb, ltb-true}
use lib.IntN.{ℤ, pos, negsuc, nat_abs}
use lib.Signed.{lt_z}
use mir.Facts.{to_z-of_z}
use Rattle.std.proofs.lemmas.Bool.Decides.{nat_tests}
use Rattle.rows.specs.Asking.{chosen_place, next_place}
use Rattle.rows.proofs.steps.ask.next_place.Goals.{then-i-first-via-then-i-first, then-i-first-via-else-i-first+then-x-lt0}
use Rattle.rows.proofs.steps.ask.next_place.Goals as goal

-- ── the definition, case by case ──
module _ (kind : ℕ) (x : ℤ) (i first last : ℕ) (k : kind ≡ 4) where
  candidate : (i ≡ first → ⊥) → last ≡ next_place kind x i first last
  unfolding next_place
  candidate h = rw (eq-eqb kind 4 k, ne_eqb i first h)

  index : i ≡ first → chosen_place x first last ≡ next_place kind x i first last
  unfolding next_place
  index h = rw (eq-eqb kind 4 k, eq-eqb i first h)

below : (x : ℤ) (first last : ℕ) → lt_z x (pos 0) ≡ true → last ≡ chosen_place x first last
below (pos k) first last e = absurd (omega (arith, ltb-true k 0 e))
below (negsuc k) first last e = refl

inside : (x : ℤ) (first last : ℕ) → lt_z x (pos 0) ≡ false → min (first + 1 + nat_abs x) last ≡ chosen_place x first last
inside (pos k) first last e = grind (arith, nat_tests)
inside (negsuc k) first last e = absurd (true≢false e)

-- ── the code ──
pub returns-then-kind-ne4 : goal.returns-then-kind-ne4
unfolding next_place
returns-then-kind-ne4 c = rw (ne_eqb c.args.kind 4 c.if-kind-ne4.true)

pub returns-then-i-first : goal.returns-then-i-first
returns-then-i-first c =
    let a = c.args in
    elim c.then-i-first.branch [
      | then-i-first-via-then-i-first w ↦ candidate a.kind a.x a.i a.first a.last c.if-kind-ne4.false w.if-i-first.true
      | then-i-first-via-else-i-first+then-x-lt0 w ↦
          below a.x a.first a.last (simp (to_z-of_z c.ranges.x) at w.if-x-lt0.true) ∙ index a.kind a.x a.i a.first a.last c.if-kind-ne4.false w.if-i-first.false
    ]

pub returns : goal.returns
returns c =
    let a = c.args in
    (simp (to_z-of_z c.ranges.x) at c.min.ensures) ∙ inside a.x a.first a.last (simp (to_z-of_z c.ranges.x) at c.if-x-lt0.false)
    ∙ index a.kind a.x a.i a.first a.last c.if-kind-ne4.false c.if-i-first.false
