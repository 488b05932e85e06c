-- An index in its ELEMENT's group bars the group (`round-least`), and the numbers found are those that the groups share (`shared_of`). Assumes nothing.
use Rattle.std.proofs.Common.{ap, refl, ◌∙◌, true}
use Rattle.integers.specs.Below.{if_below}
use Rattle.order.proofs.Sweeps.{clean-new}
use Rattle.chains.proofs.Barring.{barred-start}
use Rattle.chains.proofs.Index.{indexed_of}
use Rattle.chains.proofs.Permitted.{found-over, shared_of, shared-copied, round-least}
use Rattle.chains.proofs.permits.permit.first_round.Goals as goal

pub set_links-requires-clause-clean : goal.set_links-requires-clause-clean
set_links-requires-clause-clean c = let zeros = clean-new _ 4096 c.requires.kinded.formed.few in (zeros, zeros)

pub find_groups-requires-clause-clean : goal.find_groups-requires-clause-clean
find_groups-requires-clause-clean c = let zeros = clean-new _ 4096 c.requires.kinded.formed.few in (zeros, zeros)

pub bar_groups-requires-clause-indexed : goal.bar_groups-requires-clause-indexed
bar_groups-requires-clause-indexed c =
    let links = c.set_links.ensures in
    indexed_of _ c.requires.kinded.formed _ c.requires.makers _ _ links.0 links.1 c.requires.kinded.kinds

pub bar_groups-requires-clause-none : goal.bar_groups-requires-clause-none
bar_groups-requires-clause-none c = barred-start _ _

pub returns-clause-least : goal.returns-clause-least
returns-clause-least c =
    let links = c.set_links.ensures in let F = c.requires.kinded.formed in
    let found = found-over _ F true links.0 c.find_groups.ensures in
    c.first_barred.ensures
    ∙ ap (if_below c.args.tables.now.n) (round-least _ F _ c.requires.makers _ _ links.0 links.1 _ _ found c.bar_groups.ensures refl)

pub returns-clause-numbered : goal.returns-clause-numbered
returns-clause-numbered c =
    let F = c.requires.kinded.formed in
    let found = found-over _ F true c.set_links.ensures.0 c.find_groups.ensures in
    shared-copied _ F c.args.numbers.now (shared_of _ F found) c.requires.room c.copy_numbers.ensures
