use Rattle.std.proofs.Common.{arith, rules, tests, ◌≡◌, ◌+◌, ◌-◌, ◌<◌, ℕ, List, suc, length, ap, ◌∙◌}
use Rattle.std.proofs.lemmas.Iterator.{YieldsList-from_slice}
use Rattle.std.proofs.lemmas.Iterator.Adapters.{serves_from_places}
use Rattle.std.proofs.lemmas.Iterator.Search.{any_from_yields_List}
use mathlib.Core.Logic.{◌≢◌}
use Rattle.paper.specs.Lists.{any, nat}
use Rattle.paper.specs.Net.{differs}
use Rattle.routes.specs.Rows.{values_of}
use Rattle.routes.specs.Work.{entries}
use Rattle.closed_routes.specs.Looking.{Parts}
use Rattle.closed_routes.proofs.Changed.{Row, any-is, sees-none, row-inputs, input-low}
use Rattle.closed_routes.proofs.changes.changed.Goals as goal

row_of : {maker : ℕ} (v : ℕ) (by : List ℕ) → maker ≡ nat by v → maker ≢ 0 → nat by v ≡ suc (maker - 1)
row_of v by e h = omega (arith, e, h)

-- the row of v
known : {firsts counts vars by : List ℕ} {v maker first count : ℕ} → Parts firsts counts vars by → maker ≡ nat by v → maker ≢ 0 → first ≡ nat firsts (maker - 1)
    → count ≡ nat counts (maker - 1) → Row firsts counts vars by v (maker - 1) first (first + count)
known {by = by} {v = v} parts e h p q = record { parts = parts; row = row_of v by e h; first-is = p; last-is = omega (arith, p, q) }

pub returns-then-maker-eq0 : goal.returns-then-maker-eq0
returns-then-maker-eq0 c =
    sees-none (differs (values_of c.args.values.now) (values_of c.args.stored.now)) _ _ _ _ _ (omega (arith, c.wide-maker.ensures.0, c.if-maker-eq0.true))

pub bounds-tables-r : goal.bounds-tables-r
bounds-tables-r c = c.requires.parts.in-firsts _ _ (row_of c.args.v c.args.by.now c.wide-maker.ensures.0 c.if-maker-eq0.false)

pub bounds-tables-r-2 : goal.bounds-tables-r-2
bounds-tables-r-2 c = c.requires.parts.in-counts _ _ (row_of c.args.v c.args.by.now c.wide-maker.ensures.0 c.if-maker-eq0.false)

-- each input is a variable, so it stands in both rows
pub any-requires-clause-callable : goal.any-requires-clause-callable
any-requires-clause-callable c =
    let K = known c.requires.parts c.wide-maker.ensures.0 c.if-maker-eq0.false c.wide-first.ensures.0 c.wide.ensures.0 in
    serves_from_places (YieldsList-from_slice (entries c.args.tables.now.vars.now c.wide-first.result (c.wide-first.result + c.wide.result)) cc) (λ x q k. search (rules, tests))
    (λ x k h e.
    let low : x.now < length c.args.by.now = input-low K x.now k h e in let there = c.requires.there in
    search rules)

pub returns : goal.returns
returns c =
    let K = known c.requires.parts c.wide-maker.ensures.0 c.if-maker-eq0.false c.wide-first.ensures.0 c.wide.ensures.0 in
    let changes = differs (values_of c.args.values.now) (values_of c.args.stored.now) in
    any_from_yields_List changes _ _ _ c.any.ensures.ran (YieldsList-from_slice _ cc) (λ x b q k. search (rules, tests)) ∙ any-is changes _ ∙ ap (any changes) (row-inputs K)
