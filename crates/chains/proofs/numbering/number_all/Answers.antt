-- Where no chain closes the numbers found are those that groups share, and every variable is permitted (`open-least`, `open_shared`). Assumes nothing.
use Rattle.std.proofs.Common.{ap, sym, ◌∙◌, rules}
use native.Mathlib.Nat.{le_refl}
use Rattle.integers.specs.Below.{if_below}
use Rattle.integers.proofs.Below.{if_below-none}
use Rattle.chains.specs.Links.{kinded_lent}
use Rattle.chains.proofs.Kinded.{formed_bare}
use Rattle.chains.proofs.Opens.{open-least, open_shared, not_some}
use Rattle.chains.proofs.numbering.number_all.Goals as goal

pub find_numbers-requires-clause-formed : goal.find_numbers-requires-clause-formed
find_numbers-requires-clause-formed c = formed_bare (kinded_lent c.args.tables.now) c.requires.kinded.formed

pub write_numbers-requires-clause-numbered : goal.write_numbers-requires-clause-numbered
write_numbers-requires-clause-numbered c = c.find_numbers.ensures.numbered (not_some _ (sym c.is_some.ensures ∙ c.if-is_some.false))

pub returns-clause-least : goal.returns-clause-least
returns-clause-least c =
    let t = c.args.tables.now in
    if_below-none t.n t.n (le_refl t.n)
    ∙ ap (if_below t.n) (open-least (kinded_lent t) c.requires.kinded.formed (sym (not_some _ (sym c.is_some.ensures ∙ c.if-is_some.false)) ∙ c.find_numbers.ensures.least))

pub returns-clause-numbered : goal.returns-clause-numbered
returns-clause-numbered c =
    let t = c.args.tables.now in let long = c.requires.clean.long in
    open_shared (kinded_lent t) c.requires.kinded.formed (sym (not_some _ (sym c.is_some.ensures ∙ c.if-is_some.false)) ∙ c.find_numbers.ensures.least) _ (search rules) c.write_numbers.ensures
