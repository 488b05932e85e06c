use Rattle.std.proofs.Common.{arith, ◌≡◌, ◌≤◌, ◌+◌, ◌-◌, ℕ, ℤ, List, length, suc, rules}
use mathlib.Core.Logic.{◌≢◌}
use mir.Syntax.{w32}
use mir.Val.{SFits}
use mir.Facts.{to_z-of_z}
use Rattle.paper.specs.Lists.{nat}
use Rattle.paper.proofs.Lists.{clash}
use Rattle.routes.specs.Rows.{values_of}
use Rattle.routes.proofs.Asks.{idle}
use Rattle.routes.proofs.InTurn.{turn-less}
use Rattle.closed_routes.specs.Looking.{shapes, shapes_lent, Lookable}
use Rattle.closed_routes.proofs.Walks.{walked-still}
use Rattle.closed_routes.proofs.InTurn.{Known, turn-start, turn_end, turn-call, turn-next}
use Rattle.closed_routes.proofs.looks.+look.Goals as goal

row_of : {maker : ℕ} (v : ℕ) (work : List ℕ) → maker ≡ nat work v → maker ≢ 0 → nat work v ≡ suc (maker - 1)
row_of v work e h = omega (arith, e, h)

-- what is known once the row of v is known
known : {kinds firsts counts vars work flags : List ℕ} {values : List ℤ} {v maker first count : ℕ} → Lookable (shapes kinds firsts counts vars) work values
    → length work ≤ length flags → nat flags v ≢ 1 → maker ≡ nat work v → maker ≢ 0 → first ≡ nat firsts (maker - 1) → count ≡ nat counts (maker - 1)
    → Known (shapes kinds firsts counts vars) work values v (maker - 1) first (first + count) flags
known {work = work} {v = v} laid room unseen e h p q =
    record { laid = laid; row = row_of v work e h; room = room; unseen = unseen; first-is = p; last-is = omega (arith, p, q) }

pub returns-then-maker-eq0 : goal.returns-then-maker-eq0
returns-then-maker-eq0 t c =
    let none : nat c.args.work.now c.args.v ≡ 0 = omega (arith, c.wide-maker.ensures.0, c.if-maker-eq0.true) in
    walked-still _ _ _ _ (λ w. clash w (idle (shapes_lent c.args.tables.now) _ _ none))

pub bounds-tables-r : goal.bounds-tables-r
bounds-tables-r t c = c.requires.laid.in-kinds _ _ (row_of c.args.v c.args.work.now c.wide-maker.ensures.0 c.if-maker-eq0.false)

pub bounds-tables-r-2 : goal.bounds-tables-r-2
bounds-tables-r-2 t c = c.requires.laid.parts.in-firsts _ _ (row_of c.args.v c.args.work.now c.wide-maker.ensures.0 c.if-maker-eq0.false)

pub bounds-tables-r-3 : goal.bounds-tables-r-3
bounds-tables-r-3 t c = c.requires.laid.parts.in-counts _ _ (row_of c.args.v c.args.work.now c.wide-maker.ensures.0 c.if-maker-eq0.false)

pub loop-i-init : goal.loop-i-init
loop-i-init t c =
    turn-start (known c.requires.laid c.requires.there.1 c.if-flags-v-eq1.false c.wide-maker.ensures.0 c.if-maker-eq0.false c.wide-first.ensures.0 c.wide.ensures.0)

-- the variable at a place can be gone to
pub look-requires : goal.look-requires
look-requires t c =
    let K = known c.requires.laid c.requires.there.1 c.if-flags-v-eq1.false c.wide-maker.ensures.0 c.if-maker-eq0.false c.wide-first.ensures.0 c.wide.ensures.0 in
    let k = turn-call K c.loop-i.invariant c.loop-i-test.true c.wide-u.ensures.0 in
    (omega (arith, k.0, c.decreases), (c.requires.laid, (k.1, k.2)))

pub bounds-values-u : goal.bounds-values-u
bounds-values-u t c =
    let K = known c.requires.laid c.requires.there.1 c.if-flags-v-eq1.false c.wide-maker.ensures.0 c.if-maker-eq0.false c.wide-first.ensures.0 c.wide.ensures.0 in
    let k = turn-call K c.loop-i.invariant c.loop-i-test.true c.wide-u.ensures.0 in
    omega (arith, k.1, c.requires.laid.in-values)

pub loop-i-smaller : goal.loop-i-smaller
loop-i-smaller t c = turn-less _ _ _ _ _ _ c.next_place-i.ensures c.loop-i-test.true

pub loop-i-preserved : goal.loop-i-preserved
loop-i-preserved t c =
    let K = known c.requires.laid c.requires.there.1 c.if-flags-v-eq1.false c.wide-maker.ensures.0 c.if-maker-eq0.false c.wide-first.ensures.0 c.wide.ensures.0 in
    let fits : SFits w32 (values_of c.args.values.now c.wide-u.result) = search rules in
    turn-next K c.loop-i.invariant c.loop-i-test.true c.wide-u.ensures.0 _ _ _ (to_z-of_z fits) c.next_place-i.ensures c.look.ensures

pub returns : goal.returns
returns t c =
    let K = known c.requires.laid c.requires.there.1 c.if-flags-v-eq1.false c.wide-maker.ensures.0 c.if-maker-eq0.false c.wide-first.ensures.0 c.wide.ensures.0 in
    turn_end K c.loop-i.invariant c.loop-i-test.false
