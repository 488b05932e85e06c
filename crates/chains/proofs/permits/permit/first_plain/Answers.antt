-- A link that leads back into its group closes a chain (`plain-least`). Assumes nothing.
use Rattle.std.proofs.Common.{ap, refl, ◌∙◌}
use Rattle.integers.specs.Below.{if_below}
use Rattle.order.proofs.Sweeps.{clean-new}
use Rattle.chains.proofs.Permitted.{plain-least}
use Rattle.chains.proofs.permits.permit.first_plain.Goals as goal

pub set_links-requires-clause-clean : goal.set_links-requires-clause-clean
set_links-requires-clause-clean c = let zeros = clean-new _ 4096 c.requires.kinded.formed.few in (zeros, zeros)

pub find_groups-requires-clause-clean : goal.find_groups-requires-clause-clean
find_groups-requires-clause-clean c = let zeros = clean-new _ 4096 c.requires.kinded.formed.few in (zeros, zeros)

pub returns : goal.returns
returns c =
    c.first_back.ensures
    ∙ ap (if_below c.args.tables.now.n) (plain-least _ c.requires.kinded.formed c.set_links.ensures.0 c.find_groups.ensures refl)
