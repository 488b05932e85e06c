-- A row that makes a variable named by an earlier row is not the first that makes it; else the row named is this one (`Once`). Assumes nothing.
use Prim.Native.Nat.{ℕ}
use mathlib.Core.Bool.{Bool, true, false}
use mathlib.Core.Path.{◌≡◌, ap, ◌∙◌}
use borrow.Author.Rules.{rules}
use borrow.Author.Tests.{tests}
use Rattle.std.proofs.lemmas.Iterator.{first_from_Range}
use Rattle.integers.specs.Below.{if_below}
use Rattle.paper.proofs.Scan.{first_fail-same}
use Rattle.tables.proofs.Positions.{first-found}
use lib.Dec.{ltb}
use Rattle.paper.specs.Lists.{nat}
use Rattle.checks.proofs.Once.{named-told}
use Rattle.checks.proofs.sound.first_made_again.Goals as goal

pub returns : goal.returns
returns c =
    let t = c.args.tables.now in let by = c.args.by.now in
    let good : ℕ → Bool = λ r. ltb r (nat by (nat t.makes.now r)) in
    first-found good t.m _
    (first_from_Range _ _ _ _ (λ k. good k ≡ false) (λ k. good k ≡ true) c.find.ensures.ran (λ x q k. search (rules, tests)) (λ x q k. search (rules, tests)))
    ∙ ap (if_below t.m) (first_fail-same _ _ t.m (λ r l. named-told t.n t.m t.makes.now by c.requires r l))
