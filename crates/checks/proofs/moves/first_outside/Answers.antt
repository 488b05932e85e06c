use Prim.Native.Nat.{ℕ}
use mathlib.Core.Bool.{Bool, true, false}
use mathlib.Core.Path.{◌≡◌}
use borrow.Author.Rules.{rules}
use borrow.Author.Tests.{tests}
use Rattle.std.proofs.lemmas.Iterator.{first_from_Range}
use Rattle.paper.specs.Checks.{pair_within}
use Rattle.tables.specs.Lent.{lent_move, lent_bounds}
use Rattle.tables.proofs.Positions.{first-found}
use Rattle.checks.proofs.moves.first_outside.Goals as goal

pub returns : goal.returns
returns c =
    let good : ℕ → Bool = pair_within (lent_move c.args.mv.now) (lent_bounds c.args.bounds.now) in
    first-found good c.args.mv.now.pairs _
    (first_from_Range _ _ _ _ (λ k. good k ≡ false) (λ k. good k ≡ true) c.find.ensures.ran (λ x q k. search (rules, tests)) (λ x q k. search (rules, tests)))
