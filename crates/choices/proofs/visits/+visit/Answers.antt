use Rattle.std.proofs.Common.{arith, rules, ◌≡◌, ◌+◌, ◌-◌, suc}
use mir.Syntax.{w32}
use mir.Val.{SFits}
use mir.Facts.{to_z-of_z}
use Rattle.std.proofs.Common.{get_or, pos}
use Rattle.integers.proofs.Bits.{told}
use Rattle.paper.specs.Lists.{nat}
use Rattle.routes.specs.Work.{rows_lent, work_net}
use Rattle.routes.proofs.Asks.{lawful-work, idle}
use Rattle.routes.proofs.InTurn.{turn-less}
use Rattle.choices.proofs.Visited.{visited-search}
use Rattle.choices.proofs.InTurn.{Known, turn-start, turn_inside, turn-fits, turn_end, turn-call, turn-fail, turn-next}
use Rattle.choices.proofs.visits.+visit.Goals as goal

pub returns-then-maker-eq0 : goal.returns-then-maker-eq0
returns-then-maker-eq0 t c =
    let rows = rows_lent c.args.tables.now in let by = c.args.by.now in
    visited-search (work_net rows by) (lawful-work rows by) _ _ _ _ (record { right = c.requires.right; below = c.requires.there; unseen = search rules })
    (idle rows by _ (omega (arith, c.wide-maker.ensures.0)))

pub bounds-tables-r : goal.bounds-tables-r
bounds-tables-r t c =
    let row : nat c.args.by.now c.args.v ≡ suc (c.wide-maker.result - 1) = omega (arith, c.wide-maker.ensures.0) in
    let fits = c.requires.laid.fits c.args.v _ row c.args.values.now c.requires.right.in-values in
    omega (arith, fits.in-kinds)

pub bounds-tables-r-2 : goal.bounds-tables-r-2
bounds-tables-r-2 t c =
    let row : nat c.args.by.now c.args.v ≡ suc (c.wide-maker.result - 1) = omega (arith, c.wide-maker.ensures.0) in
    let fits = c.requires.laid.fits c.args.v _ row c.args.values.now c.requires.right.in-values in
    omega (arith, fits.in-firsts)

pub bounds-tables-r-3 : goal.bounds-tables-r-3
bounds-tables-r-3 t c =
    let row : nat c.args.by.now c.args.v ≡ suc (c.wide-maker.result - 1) = omega (arith, c.wide-maker.ensures.0) in
    let fits = c.requires.laid.fits c.args.v _ row c.args.values.now c.requires.right.in-values in
    omega (arith, fits.in-counts)

pub loop-i-init : goal.loop-i-init
loop-i-init t c =
    let known : Known (rows_lent c.args.tables.now) c.args.by.now c.args.v (c.wide-maker.result - 1) c.wide-first.result (c.wide-first.result + c.wide.result) c.args.values.now c.args.states.now
    = record {
      laid = c.requires.laid;
      row = omega (arith, c.wide-maker.ensures.0);
      begun = record { right = c.requires.right; below = c.requires.there; unseen = search rules };
      first-is = c.wide-first.ensures.0;
      last-is = omega (arith, c.wide-first.ensures.0, c.wide.ensures.0);
    } in
    (known, turn-start known)

pub bounds-tables-i : goal.bounds-tables-i
bounds-tables-i t c = omega (arith, turn_inside c.loop-i.invariant.0 c.loop-i.invariant.1, c.loop-i-test.true)

-- the variable at a place can be visited
pub visit-requires : goal.visit-requires
visit-requires t c =
    let k = turn-call c.loop-i.invariant.0 c.loop-i.invariant.1 c.loop-i-test.true c.wide-u.ensures.0 in
    (omega (arith, k.0, c.decreases), (c.requires.laid, (k.1, k.2)))

pub returns-then-visit-eq1 : goal.returns-then-visit-eq1
returns-then-visit-eq1 t c = turn-fail c.loop-i.invariant.0 c.loop-i.invariant.1 c.loop-i-test.true c.wide-u.ensures.0 c.visit.ensures c.if-visit-eq1.true

pub loop-i-smaller : goal.loop-i-smaller
loop-i-smaller t c = turn-less _ _ _ _ _ _ c.next_place-i.ensures c.loop-i-test.true

pub loop-i-preserved : goal.loop-i-preserved
loop-i-preserved t c =
    let known = c.loop-i.invariant.0 in (
      known,
      turn-next known c.loop-i.invariant.1 c.loop-i-test.true c.wide-u.ensures.0 c.visit.ensures c.if-visit-eq1.false _ _
          (let fits : SFits w32 (get_or c.visit.new.values c.wide-u.result (pos 0)) = search rules in to_z-of_z fits) c.next_place-i.ensures,
    )

pub row_value-requires : goal.row_value-requires
row_value-requires t c = turn-fits c.loop-i.invariant.0 c.loop-i.invariant.1

pub returns : goal.returns
returns t c = turn_end c.loop-i.invariant.0 c.loop-i.invariant.1 c.loop-i-test.false _ (told w32 c.row_value.type_inv c.row_value.ensures)
