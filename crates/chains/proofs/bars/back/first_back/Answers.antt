-- The search finds the first that has such a link (`found-in_range`). Assumes nothing.
use Rattle.std.proofs.Common.{◌≡◌, true, false, rules}
use borrow.Author.Tests.{tests}
use Rattle.std.proofs.lemmas.Iterator.{first_from_Range}
use Rattle.groups.specs.Links.{links_of}
use Rattle.chains.specs.Back.{leads_back}
use Rattle.chains.proofs.Found.{found-in_range}
use Rattle.chains.proofs.bars.back.first_back.Goals as goal

pub returns : goal.returns
returns c =
    let back = leads_back (links_of c.args.links.now) c.args.marks.now in
    found-in_range back c.args.links.now.n c.find.result
    (first_from_Range _ _ _ c.find.result (λ v. back v ≡ true) (λ v. back v ≡ false) c.find.ensures.ran (λ x q k. search (rules, tests)) (λ x q k. search (rules, tests)))
