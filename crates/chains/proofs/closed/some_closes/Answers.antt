use Rattle.std.proofs.Common.{ℕ, arith, rules, refl, sym, ◌∙◌, ◌≡◌, true, false}
use borrow.Author.Tests.{tests, not-false}
use Rattle.std.proofs.lemmas.Iterator.{cases_from_any, YieldsList-from_range}
use Rattle.paper.specs.Lists.{nat}
use Rattle.chains.specs.Links.{kinded_lent}
use Rattle.chains.specs.Level.{level_candidate}
use Rattle.chains.proofs.Elements.{no-element, rows-told}
use Rattle.chains.proofs.closed.some_closes.Goals as goal

pub returns-else-some_element : goal.returns-else-some_element
returns-else-some_element c =
    c.if-some_element.false ∙ no-element _ c.requires.kinded.formed _ c.requires.right (not-false _ (sym c.some_element.ensures ∙ c.if-some_element.false))

pub returns-then-some_element : goal.returns-then-some_element
returns-then-some_element c =
    let t = kinded_lent c.args.tables.now in let level = λ (r : ℕ). level_candidate t c.args.numbers.now (nat t.makes r) in
    rows-told t c.requires.kinded.formed c.args.numbers.now c.requires.right c.any.result
    (cases_from_any _ _ c.any.result (λ r. level r ≡ true) (λ r. level r ≡ false) c.any.ensures.ran (YieldsList-from_range 0 t.m t.m refl (omega arith)) (λ x q k. search (rules, tests)) (λ x q k. search (rules, tests)))
