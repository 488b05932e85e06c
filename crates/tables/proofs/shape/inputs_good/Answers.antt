use mathlib.Core.Bool.{true, false}
use mathlib.Core.Path.{◌≡◌}
use lib.Dec.{ltb}
use borrow.Author.Rules.{rules}
use borrow.Author.Tests.{tests}
use Rattle.std.proofs.lemmas.Iterator.{cases_from_all, YieldsList-from_slice}
use Rattle.tables.proofs.Positions.{all-told}
use Rattle.tables.proofs.shape.inputs_good.Goals as goal

pub returns : goal.returns
returns c =
    let a = c.args in
    all-told (λ v. ltb v a.n) 0 a.part.now _
    (cases_from_all _ _ _ (λ v. ltb v a.n ≡ true) (λ v. ltb v a.n ≡ false) c.all.ensures.ran (YieldsList-from_slice a.part.now cc)
    (λ x q k. search (rules, tests)) (λ x q k. search (rules, tests)))
