-- One of the links has the mark exactly if one of all entries of the part has (`list_any-part`). Assumes nothing.
use Rattle.std.proofs.Common.{arith, rules, refl, ◌∙◌, ap₂, ◌-◌, ◌<◌, ◌≤◌, eqb, length}
use Rattle.std.proofs.Math.Seq.{slice}
use borrow.Author.Tests.{tests}
use Rattle.std.proofs.lemmas.Iterator.{serves_from_Range, YieldsList-from_range}
use Rattle.std.proofs.lemmas.Iterator.Search.{any_from_yields_List}
use Rattle.paper.specs.Lists.{any, nat}
use Rattle.chains.proofs.Found.{list_any-part, part-low}
use Rattle.chains.proofs.bars.back.leads_back.Goals as goal

pub any-requires-clause-callable : goal.any-requires-clause-callable
any-requires-clause-callable c =
    let links = c.args.links.now in
    let begin = c.wide.ensures.0 in let stop = c.wide-2.ensures.0 in
    serves_from_Range (λ x q k. search (rules, tests)) (λ i from below.
    let inside : i < length links.vars.now = omega (arith, c.requires.laid.inside c.args.v) in
    let low = part-low links.n links.vars.now (nat links.begins.now c.args.v) (nat links.stops.now c.args.v) (c.requires.laid.inside c.args.v) (c.requires.laid.below c.args.v) i (omega arith) (omega arith) in
    let marked : nat links.vars.now i < 4096 = omega (arith, c.requires.laid.few) in
    search (rules, inside, marked))

pub returns : goal.returns
returns c =
    let links = c.args.links.now in let marks = c.args.marks.now in let mark = nat marks c.args.v in
    let inside : c.wide-2.result ≤ length links.vars.now = omega (arith, c.requires.laid.inside c.args.v) in
    any_from_yields_List (λ i. eqb mark (nat marks (nat links.vars.now i))) _ _ _ c.any.ensures.ran
    (YieldsList-from_range c.wide.result c.wide-2.result (c.wide-2.result - c.wide.result) refl refl) (λ x b q k. search (rules, tests))
    ∙ list_any-part (λ j. eqb mark (nat marks j)) links.vars.now c.wide.result c.wide-2.result inside
    ∙ ap₂ (λ a b. any (λ j. eqb mark (nat marks j)) (slice a b links.vars.now)) c.wide.ensures.0 c.wide-2.ensures.0
