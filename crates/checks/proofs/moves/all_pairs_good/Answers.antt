use Prim.Native.Nat.{ℕ}
use native.Mathlib.Omega.{arith}
use mathlib.Core.Bool.{Bool, true, false}
use mathlib.Core.Path.{◌≡◌, refl}
use borrow.Author.Rules.{rules}
use borrow.Author.Tests.{tests}
use Rattle.std.proofs.lemmas.Iterator.{cases_from_all, YieldsList-from_range}
use Rattle.tables.specs.Lent.{lent_bounds, lent_move}
use Rattle.tables.proofs.Positions.{all-below-told}
use Rattle.checks.specs.Moves.{pair_good}
use Rattle.checks.proofs.moves.all_pairs_good.Goals as goal

pub returns : goal.returns
returns c =
    let a = c.args in let m = a.mv.now.pairs in
    let good : ℕ → Bool = pair_good a.n a.by.now (lent_bounds a.bounds.now) (lent_move a.mv.now) in
    all-below-told good m _
    (cases_from_all _ _ _ (λ k. good k ≡ true) (λ k. good k ≡ false) c.all.ensures.ran (YieldsList-from_range 0 m m refl (omega arith))
    (λ x q k. search (rules, tests)) (λ x q k. search (rules, tests)))
