use Prim.Native.Nat.{ℕ}
use mathlib.Core.Bool.{Bool, true, false}
use mathlib.Core.Path.{◌≡◌, refl}
use native.Mathlib.Omega.{arith}
use borrow.Author.Rules.{rules}
use borrow.Author.Tests.{tests}
use Rattle.std.proofs.lemmas.Iterator.{cases_from_all, YieldsList-from_range}
use Rattle.paper.specs.Lists.{nat}
use Rattle.merging.specs.Merge.{counts_fit}
use Rattle.tables.proofs.Positions.{all-below-told}
use Rattle.merging.proofs.tallies_fit.Goals as goal

pub returns : goal.returns
returns c =
    let fits : ℕ → Bool = λ k. counts_fit (nat c.args.first.now k) (nat c.args.second.now k) in
    all-below-told fits 22 _
    (cases_from_all _ _ _ (λ k. fits k ≡ true) (λ k. fits k ≡ false) c.all.ensures.ran (YieldsList-from_range 0 22 22 refl (omega arith))
    (λ x q k. search (rules, tests)) (λ x q k. search (rules, tests)))
