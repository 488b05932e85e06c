use mathlib.Core.Bool.{true, false}
use mathlib.Core.Path.{◌≡◌}
use lib.Dec.{leb}
use lib.ListN.{take}
use borrow.Author.Rules.{rules}
use borrow.Author.Tests.{tests}
use Rattle.std.proofs.lemmas.Iterator.{IsFirst-from_position, YieldsList-from_slice}
use Rattle.tables.proofs.Positions.{first-position}
use Rattle.frequencies.proofs.checks.first_bad_exact.Goals as goal

pub returns : goal.returns
returns c =
    let w = c.args.windows.now in
    first-position (λ e. leb e 1) 0 w.count w.exacts.now _ c.requires.exacts
    (IsFirst-from_position _ _ _ (λ e. leb e 1 ≡ false) (λ e. leb e 1 ≡ true) c.position.ensures.ran (YieldsList-from_slice (take w.count w.exacts.now) cc)
    (λ x q k. search (rules, tests)) (λ x q k. search (rules, tests)))
