-- If the pass says that all are good there is none to find. Assumes nothing.
use Prim.Native.Nat.{ℕ}
use mathlib.Core.Bool.{Bool, true, false}
use mathlib.Core.Path.{◌≡◌, ap, ◌∙◌}
use borrow.Author.Rules.{rules}
use borrow.Author.Tests.{tests}
use Rattle.std.proofs.lemmas.Iterator.{first_from_Range}
use Rattle.integers.specs.Below.{if_below}
use Rattle.paper.proofs.Scan.{first_fail-same}
use Rattle.tables.proofs.Positions.{first-found}
use native.Mathlib.Omega.{arith}
use Rattle.tables.specs.Lent.{lent_bounds}
use Rattle.checks.specs.Allowed.{starts, value_of}
use Rattle.checks.proofs.ValuesOverMakers.{value_same, values-none}
use Rattle.checks.proofs.allowed.first_bad_value.Goals as goal

pub returns-then-all_values_good-clause-least : goal.returns-then-all_values_good-clause-least
returns-then-all_values_good-clause-least c =
    let a = c.args in
    record { of = λ t e k. values-none t a.by.now k a.n e (starts a.whose) (lent_bounds a.bounds.now) a.values.now _ c.all_values_good.ensures c.if-all_values_good.true }

pub returns-clause-least : goal.returns-clause-least
returns-clause-least c =
    let a = c.args in let bs = lent_bounds a.bounds.now in
    let good : ℕ → Bool = value_of (starts a.whose) a.by.now bs a.values.now in
    let found = first-found good a.n _
    (first_from_Range _ _ _ _ (λ k. good k ≡ false) (λ k. good k ≡ true) c.find.ensures.ran (λ x q k. search (rules, tests)) (λ x q k. search (rules, tests))) in
    record { of = λ t e k. found ∙ ap (if_below a.n) (first_fail-same _ _ a.n (λ v l. value_same t a.by.now k (starts a.whose) bs a.values.now v (omega arith))) }
