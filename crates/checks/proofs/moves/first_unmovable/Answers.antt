use Prim.Native.Nat.{ℕ}
use mathlib.Core.Bool.{Bool, true, false, ◌&&◌}
use mathlib.Core.Path.{◌≡◌, ap, ◌∙◌}
use borrow.Author.Rules.{rules}
use borrow.Author.Tests.{tests}
use Rattle.std.proofs.lemmas.Iterator.{first_from_Range}
use Rattle.integers.specs.Below.{if_below}
use Rattle.paper.proofs.Scan.{first_fail-same}
use Rattle.tables.proofs.Positions.{first-found}
use lib.Dec.{eqb, ltb}
use Rattle.paper.specs.Lists.{nat}
use Rattle.tables.specs.Lent.{lent_move}
use Rattle.checks.proofs.MovesOverMakers.{movable-told}
use Rattle.checks.proofs.moves.first_unmovable.Goals as goal

pub returns-clause-least : goal.returns-clause-least
returns-clause-least c =
    let a = c.args in let mv = lent_move a.mv.now in
    let good : ℕ → Bool = λ i. ltb (nat mv.vars i) a.n && eqb (nat a.by.now (nat mv.vars i)) 0 in
    let found = first-found good mv.pairs _
    (first_from_Range _ _ _ _ (λ k. good k ≡ false) (λ k. good k ≡ true) c.find.ensures.ran (λ x q k. search (rules, tests)) (λ x q k. search (rules, tests))) in
    record { of = λ t e k. found ∙ ap (if_below mv.pairs) (first_fail-same _ _ mv.pairs (λ i l. movable-told t a.by.now k a.n e mv i)) }
