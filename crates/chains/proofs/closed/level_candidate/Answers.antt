use Rattle.std.proofs.Common.{arith, rules, sym, ap₂, ◌∙◌, ◌<◌, ◌+◌, leb, length}
use borrow.Author.Tests.{tests, ne_eqb, eq-eqb}
use Rattle.std.specs.List.{between}
use Rattle.std.proofs.lemmas.Iterator.{YieldsList-from_slice}
use Rattle.std.proofs.lemmas.Iterator.Search.{any_from_yields_List}
use Rattle.std.proofs.lemmas.Iterator.Adapters.{serves_from_places}
use Rattle.paper.specs.Lists.{any, nat}
use Rattle.chains.specs.Links.{kinded_lent}
use Rattle.chains.proofs.Candidates.{candidates-between, candidates-low}
use Rattle.chains.proofs.Elements.{row-level}
use Rattle.chains.proofs.Found.{list_any-is}
use Rattle.chains.proofs.closed.level_candidate.Goals as goal

pub returns-then-tables-r-ne4 : goal.returns-then-tables-r-ne4
returns-then-tables-r-ne4 c =
    sym (row-level (kinded_lent c.args.tables.now) c.requires.kinded.formed c.args.numbers.now _ c.requires.long.0 (ne_eqb _ _ c.if-tables-r-ne4.true))

pub any-requires-clause-callable : goal.any-requires-clause-callable
any-requires-clause-callable c =
    let t = kinded_lent c.args.tables.now in
    let part = between (c.wide-first.result + 1) (c.wide-first.result + c.wide-2.result) t.vars in
    serves_from_places (YieldsList-from_slice part cc) (λ x q k. search (rules, tests)) (λ x k l e.
    let low = candidates-low t c.requires.kinded.formed _ c.requires.long.0 c.wide-first.ensures.0 c.wide-2.ensures.0 (eq-eqb _ _ c.if-tables-r-ne4.false) k x.now l in
    let inside : x.now < length c.args.numbers.now = omega (arith, c.requires.long.1) in
    search (rules, inside))

pub returns : goal.returns
returns c =
    let t = kinded_lent c.args.tables.now in let numbers = c.args.numbers.now in
    let part = between (c.wide-first.result + 1) (c.wide-first.result + c.wide-2.result) t.vars in
    any_from_yields_List (λ i. leb (nat numbers c.wide.result) (nat numbers i)) _ _ _ c.any.ensures.ran (YieldsList-from_slice part cc) (λ x b q k. search (rules, tests))
    ∙ list_any-is _ part
    ∙ ap₂ (λ v xs. any (λ i. leb (nat numbers v) (nat numbers i)) xs) c.wide.ensures.0
    (candidates-between t c.requires.kinded.formed _ c.requires.long.0 c.wide-first.ensures.0 c.wide-2.ensures.0 (eq-eqb _ _ c.if-tables-r-ne4.false))
