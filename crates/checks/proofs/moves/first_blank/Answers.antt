use mathlib.Core.Bool.{true, false, not}
use mathlib.Core.Path.{◌≡◌}
use lib.IntN.{pos}
use lib.ListN.{take}
use borrow.Author.Rules.{rules}
use borrow.Author.Tests.{tests}
use Rattle.std.proofs.lemmas.Iterator.{IsFirst-from_position, YieldsList-from_slice}
use Rattle.integers.specs.Integers.{eq_z}
use Rattle.paper.specs.Formula.{blank}
use Rattle.tables.proofs.Positions.{first-position}
use Rattle.checks.proofs.moves.first_blank.Goals as goal

pub returns : goal.returns
returns c =
    let mv = c.args.mv.now in
    first-position (λ z. not (eq_z z blank)) (pos 0) mv.pairs mv.values.now _ c.requires
    (IsFirst-from_position _ _ _ (λ z. not (eq_z z blank) ≡ false) (λ z. not (eq_z z blank) ≡ true) c.position.ensures.ran (YieldsList-from_slice (take mv.pairs mv.values.now) cc)
    (λ x q k. search (rules, tests)) (λ x q k. search (rules, tests)))
