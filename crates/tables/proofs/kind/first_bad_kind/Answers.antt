use mathlib.Core.Bool.{true, false}
use mathlib.Core.Path.{◌≡◌, sym, ◌∙◌}
use lib.ListN.{take}
use borrow.Author.Rules.{rules}
use borrow.Author.Tests.{tests}
use Rattle.std.proofs.lemmas.Iterator.{IsFirst-from_position, YieldsList-from_slice}
use Rattle.paper.specs.Lists.{between}
use Rattle.paper.specs.Checks.{kind_good}
use Rattle.tables.specs.Lent.{lent_tables}
use Rattle.tables.proofs.Whole.{all-none}
use Rattle.tables.proofs.Positions.{first-position}
use Rattle.tables.proofs.kind.first_bad_kind.Goals as goal

pub returns-then-kinds_good : goal.returns-then-kinds_good
returns-then-kinds_good c = all-none (kind_good (lent_tables c.args.tables.now)) c.args.tables.now.m (sym c.kinds_good.ensures ∙ c.if-kinds_good.true)

pub returns : goal.returns
returns c =
    let t = c.args.tables.now in
    first-position (λ k. between 1 k 9) 0 t.m t.kinds.now _ c.requires
    (IsFirst-from_position _ _ _ (λ k. between 1 k 9 ≡ false) (λ k. between 1 k 9 ≡ true) c.position.ensures.ran (YieldsList-from_slice (take t.m t.kinds.now) cc)
    (λ x q k. search (rules, tests)) (λ x q k. search (rules, tests)))
