-- If the pass says that all are good there is none to find. Assumes nothing.
use Prim.Native.Nat.{ℕ}
use mathlib.Core.Bool.{Bool, true, false}
use mathlib.Core.Path.{◌≡◌, sym, ◌∙◌}
use borrow.Author.Rules.{rules}
use borrow.Author.Tests.{tests}
use Rattle.std.proofs.lemmas.Iterator.{first_from_Range}
use Rattle.tables.proofs.Positions.{first-found}
use Rattle.tables.specs.Lent.{lent_bounds}
use Rattle.tables.proofs.Whole.{all-none}
use Rattle.checks.specs.Allowed.{bound_of}
use Rattle.checks.proofs.bounds.first_bad_bound.Goals as goal

pub returns-then-all_bounds_good : goal.returns-then-all_bounds_good
returns-then-all_bounds_good c = all-none (bound_of c.args.by.now (lent_bounds c.args.bounds.now)) c.args.n (sym c.all_bounds_good.ensures ∙ c.if-all_bounds_good.true)

pub returns : goal.returns
returns c =
    let good : ℕ → Bool = bound_of c.args.by.now (lent_bounds c.args.bounds.now) in
    first-found good c.args.n _
    (first_from_Range _ _ _ _ (λ k. good k ≡ false) (λ k. good k ≡ true) c.find.ensures.ran (λ x q k. search (rules, tests)) (λ x q k. search (rules, tests)))
