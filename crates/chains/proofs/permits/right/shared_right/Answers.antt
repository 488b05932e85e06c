-- Where no chain closes the numbers and the order decide (`eight_is`, `right-open`), and elsewhere those found anew; so, if they are right, they told
-- whether one closes (`told-by`). Assumes nothing.
use Rattle.std.proofs.Common.{sym, ◌∙◌, not, subst}
use Rattle.order.proofs.Bare.{makers-bare}
use Rattle.order.proofs.Eight.{eight_is}
use Rattle.chains.specs.Links.{kinded_lent, Told}
use Rattle.chains.proofs.Kinded.{formed_bare}
use Rattle.chains.proofs.Compared.{right-open, told-by, told-open, told-closed}
use Rattle.chains.proofs.permits.right.shared_right.Goals as goal

pub returns-then-numbered_right : goal.returns-then-numbered_right
returns-then-numbered_right c =
    let t = kinded_lent c.args.tables.now in let F = c.requires.kinded.formed in let numbers = c.args.numbers.now in let ord = c.args.order.now in
    let e = eight_is _ (formed_bare t F) numbers ord c.requires.long.0 c.requires.long.1 _ (makers-bare t _ c.requires.makers) c.requires.told c.numbered_right.ensures in
    told-open t numbers ord (sym (right-open t F numbers ord (sym e ∙ c.if-numbered_right.true)))
    (subst (λ b. Told t numbers ord (not b)) c.if-numbered_right.true (told-by t F numbers ord e))

pub returns : goal.returns
returns c =
    let t = kinded_lent c.args.tables.now in let F = c.requires.kinded.formed in let numbers = c.args.numbers.now in let ord = c.args.order.now in
    let e = eight_is _ (formed_bare t F) numbers ord c.requires.long.0 c.requires.long.1 _ (makers-bare t _ c.requires.makers) c.requires.told c.numbered_right.ensures in
    c.then_some.ensures
    ∙ told-closed t numbers ord c.groups_right.ensures (subst (λ b. Told t numbers ord (not b)) c.if-numbered_right.false (told-by t F numbers ord e))
