use Rattle.std.proofs.Common.{arith, ◌≡◌, ◌<◌, ◌≤◌, ◌∙◌, ℕ, List, length, take}
use Rattle.std.proofs.lemmas.List.{get_or-take, length-take-le}
use Rattle.paper.specs.Lists.{nat}
use Rattle.order.proofs.Climbs.{climbed, no_row, too-low, climbing-next}
use Rattle.order.proofs.ascents.order_right.Goals as goal

-- a place of the front is one of the row
below-of : (m i : ℕ) (ord : List ℕ) → i < length (take m ord) → m ≤ length ord → i < m
below-of m i ord h l = omega (arith, length-take-le m ord l)

at-of : (m i r : ℕ) (ord : List ℕ) → r ≡ nat (take m ord) i → i < length (take m ord) → m ≤ length ord → r ≡ nat ord i
at-of m i r ord e h l = e ∙ get_or-take m ord i 0 (below-of m i ord h l)

pub returns-then-r-tables : goal.returns-then-r-tables
returns-then-r-tables c =
    no_row _ _ _ _ _ _ c.loop-row.invariant (below-of _ _ _ c.loop-row-test.true c.requires.there.1) _
    (at-of _ _ _ _ c.wide-r.ensures.0 c.loop-row-test.true c.requires.there.1) c.if-r-tables.true

pub returns-then-stands-least : goal.returns-then-stands-least
returns-then-stands-least c =
    too-low _ _ _ _ _ _ c.loop-row.invariant (below-of _ _ _ c.loop-row-test.true c.requires.there.1) _
    (at-of _ _ _ _ c.wide-r.ensures.0 c.loop-row-test.true c.requires.there.1) _ _ c.wide.ensures.0 c.wide-in-loop-row.ensures.0 c.if-stands-least.true

pub loop-row-preserved : goal.loop-row-preserved
loop-row-preserved c =
    climbing-next _ _ _ _ _ _ c.loop-row.invariant (below-of _ _ _ c.loop-row-test.true c.requires.there.1) _
    (at-of _ _ _ _ c.wide-r.ensures.0 c.loop-row-test.true c.requires.there.1) _ _ c.wide.ensures.0 c.wide-in-loop-row.ensures.0
    c.if-r-tables.false c.if-stands-least.false c.wide-in-loop-row.ensures.1 c.wide-r.ensures.1

pub returns : goal.returns
returns c = climbed _ _ _ _ _ _ c.loop-row.invariant (omega (arith, length-take-le c.args.tables.now.m c.args.ord.now c.requires.there.1))
