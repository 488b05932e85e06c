use mathlib.Core.Bool.{true, false}
use mathlib.Core.Path.{◌≡◌}
use lib.IntN.{pos}
use lib.ListN.{take}
use lib.Signed.{lt_z}
use borrow.Author.Rules.{rules}
use borrow.Author.Tests.{tests}
use Rattle.std.proofs.lemmas.Iterator.{IsFirst-from_position, YieldsList-from_slice}
use Rattle.tables.proofs.Positions.{first-position}
use Rattle.frequencies.proofs.checks.first_bad_headway.Goals as goal

pub returns : goal.returns
returns c =
    let w = c.args.windows.now in
    first-position (λ h. lt_z (pos 0) h) (pos 0) w.count w.headways.now _ c.requires.headways
    (IsFirst-from_position _ _ _ (λ h. lt_z (pos 0) h ≡ false) (λ h. lt_z (pos 0) h ≡ true) c.position.ensures.ran (YieldsList-from_slice (take w.count w.headways.now) cc)
    (λ x q k. search (rules, tests)) (λ x q k. search (rules, tests)))
