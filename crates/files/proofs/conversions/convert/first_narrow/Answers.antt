use Prim.Native.Nat.{ℕ}
use mathlib.Core.Bool.{Bool, true, false}
use mathlib.Core.Path.{◌≡◌}
use borrow.Author.Rules.{rules}
use borrow.Author.Tests.{tests}
use Rattle.std.proofs.lemmas.Iterator.{first_from_Range}
use Rattle.tables.proofs.Positions.{first-found}
use Rattle.files.specs.Moving.{full_at}
use Rattle.files.proofs.conversions.convert.first_narrow.Goals as goal

pub returns : goal.returns
returns c =
    let good : ℕ → Bool = full_at c.args.bytes.now c.args.at in
    first-found good c.args.count _
    (first_from_Range _ _ _ _ (λ k. good k ≡ false) (λ k. good k ≡ true) c.find.ensures.ran (λ x q k. search (rules, tests)) (λ x q k. search (rules, tests)))
