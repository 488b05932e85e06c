-- A variable is permitted if it passes both tests, so the least that is not is the smaller of the least that fail each. Assumes nothing.
use Rattle.std.proofs.Common.{ap, refl, sym, ◌∙◌, ◌≡◌, Some, None}
use mathlib.Core.Logic.{◌⊎◌, inl, inr}
use Rattle.paper.specs.Lists.{first_fail}
use Rattle.paper.specs.Chains.{permitted}
use Rattle.integers.specs.Below.{if_below}
use Rattle.chains.specs.Links.{kinded_lent}
use Rattle.chains.proofs.Permitted.{permitted-least, least_of-both, least_of-either}
use Rattle.chains.proofs.permits.permit.find_shared.Goals as goal
use Rattle.chains.proofs.permits.permit.find_shared.Goals.{in_default-via-in-Some+in_default, in_default-via-in_default}

pub returns-in-Some-Some-clause-least : goal.returns-in-Some-Some-clause-least
returns-in-Some-Some-clause-least c =
    let e = least_of-both _ _ _ (sym c.in-Some-Some.is-0 ∙ c.first_plain-plain.ensures) (sym c.in-Some-Some.is-1 ∙ c.first_round-round.ensures.least) in
    ap Some c.min.ensures ∙ e ∙ ap (if_below c.args.tables.now.n) (permitted-least (kinded_lent c.args.tables.now) refl refl refl)

least_either : (c : goal.After-or) → (c.first_plain-plain.result ≡ None) ⊎ (c.first_round-round.result ≡ None)
    → c.or.result ≡ if_below c.args.tables.now.n (first_fail (permitted (kinded_lent c.args.tables.now)) c.args.tables.now.n)
least_either c none =
    c.or.ensures ∙ least_of-either _ _ _ _ _ c.first_plain-plain.ensures c.first_round-round.ensures.least none
    ∙ ap (if_below c.args.tables.now.n) (permitted-least (kinded_lent c.args.tables.now) refl refl refl)

pub returns-in_default-clause-least : goal.returns-in_default-clause-least
returns-in_default-clause-least c = elim c.in_default.branch [
  | in_default-via-in-Some+in_default w ↦ least_either c (inr w.in_default.is-1)
  | in_default-via-in_default w ↦ least_either c (inl w.in_default.is-0)
]
