use mathlib.Core.Bool.{true, false}
use mathlib.Core.Path.{◌≡◌}
use lib.Dec.{ltb}
use lib.ListN.{take}
use borrow.Author.Rules.{rules}
use borrow.Author.Tests.{tests}
use Rattle.std.proofs.lemmas.Iterator.{IsFirst-from_position, YieldsList-from_slice}
use Rattle.tables.proofs.Positions.{first-position}
use Rattle.tables.proofs.shape.first_unknown.Goals as goal

pub returns : goal.returns
returns c =
    let a = c.args in
    first-position (λ v. ltb v a.n) 0 a.count a.vars.now _ c.requires
    (IsFirst-from_position _ _ _ (λ v. ltb v a.n ≡ false) (λ v. ltb v a.n ≡ true) c.position.ensures.ran (YieldsList-from_slice (take a.count a.vars.now) cc)
    (λ x q k. search (rules, tests)) (λ x q k. search (rules, tests)))
