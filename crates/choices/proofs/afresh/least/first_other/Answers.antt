use Rattle.std.proofs.Common.{ℕ, rules, ◌≡◌, ◌∙◌, ap, refl, sym, ℤ, Bool, true, false, not, ◌&&◌, ◌||◌, eqb, get_or, pos}
use mir.Syntax.{w32}
use mir.Val.{SFits, of_z}
use borrow.Author.Tests.{not-true, not-false}
use Rattle.integers.specs.Integers.{eq_z}
use Rattle.integers.proofs.Bits.{eqb-bits}
use Rattle.paper.specs.Lists.{nat}
use Rattle.std.proofs.lemmas.Iterator.{first_from_Range}
use Rattle.tables.proofs.Positions.{first-found}
use Rattle.choices.proofs.afresh.least.first_other.Goals as goal

-- the test that a variable fails, read back from the bits of the values
tested : (state : Bool) (a b : ℤ) {t : Bool} → SFits w32 a → SFits w32 b → (not state || not (eqb (of_z w32 a) (of_z w32 b))) ≡ t → not (state && eq_z a b) ≡ t
tested state a b f g e = ap (λ x. not (state && x)) (sym (eqb-bits w32 a b f g)) ∙ sym (deny state (eqb (of_z w32 a) (of_z w32 b))) ∙ e
  where
    deny : (x y : Bool) → (not x || not y) ≡ not (x && y)
    deny true y = refl
    deny false y = refl

pub returns : goal.returns
returns c =
    let good : ℕ → Bool = λ v. eqb (nat c.args.states.now v) 2 && eq_z (get_or c.args.stored.now v (pos 0)) (get_or c.args.values.now v (pos 0)) in
    first-found good c.args.n _
    (first_from_Range _ _ _ _ (λ v. good v ≡ false) (λ v. good v ≡ true) c.find.ensures.ran
    (λ v q k. not-true _ (tested (eqb (nat c.args.states.now v) 2) (get_or c.args.stored.now v (pos 0)) (get_or c.args.values.now v (pos 0)) (search rules) (search rules) (search rules)))
    (λ v q k. (search rules, not-false _ (tested (eqb (nat c.args.states.now v) 2) (get_or c.args.stored.now v (pos 0)) (get_or c.args.values.now v (pos 0)) (search rules) (search rules) (search rules)))))
