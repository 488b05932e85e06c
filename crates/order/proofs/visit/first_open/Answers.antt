-- The search finds the first whose visit has not ended (`first-position`). Assumes nothing.
use Rattle.std.proofs.Common.{◌≡◌, true, false, take, rules}
use lib.Dec.{leb}
use borrow.Author.Tests.{tests}
use Rattle.std.proofs.lemmas.Iterator.{IsFirst-from_position, YieldsList-from_slice}
use Rattle.tables.proofs.Positions.{first-position}
use Rattle.order.proofs.visit.first_open.Goals as goal

pub returns : goal.returns
returns c =
    let a = c.args in
    first-position (leb 2) 0 a.n a.state.now _ c.requires
    (IsFirst-from_position _ _ _ (λ s. leb 2 s ≡ false) (λ s. leb 2 s ≡ true) c.position.ensures.ran (YieldsList-from_slice (take a.n a.state.now) cc)
    (λ x q k. search (rules, tests)) (λ x q k. search (rules, tests)))
