-- The search finds the first whose mark is barred (`found-in_front`). Assumes nothing.
use Rattle.std.proofs.Common.{◌≡◌, true, false, get_or, take, rules, arith}
use borrow.Author.Tests.{tests}
use Rattle.std.proofs.lemmas.Iterator.{IsFirst-from_position, YieldsList-from_slice}
use Rattle.chains.proofs.Found.{found-in_front}
use Rattle.chains.proofs.bars.barred.first_barred.Goals as goal

pub returns : goal.returns
returns c =
    let barred = c.args.barred.now in let front = take c.args.n c.args.marks.now in
    found-in_front (λ mark. get_or barred mark false) c.args.marks.now c.args.n (omega arith) c.position.result
    (IsFirst-from_position _ _ c.position.result (λ mark. get_or barred mark false ≡ true) (λ mark. get_or barred mark false ≡ false) c.position.ensures.ran
    (YieldsList-from_slice front cc) (λ x q k. search (rules, tests)) (λ x q k. search (rules, tests)))
