use Rattle.std.proofs.Common.{arith, rules, refl, sym, ◌∙◌, ◌≡◌, ◌<◌, ℕ, ℤ, List, suc}
use Rattle.integers.proofs.Bits.{told}
use mir.Syntax.{w32}
use mir.Val.{SFits}
use mir.Facts.{to_z-of_z}
use Rattle.paper.specs.Lists.{nat}
use Rattle.paper.specs.Tables.{Tables}
use Rattle.routes.specs.Rows.{values_of}
use Rattle.routes.specs.Work.{rows_lent, RowsWorkable, Ready, Asked}
use Rattle.routes.proofs.Asks.{asked-still, asked-value}
use Rattle.routes.proofs.InTurn.{Started, turn-less, turn-fits, turn-start, turn_inside, turn-call, turn-next, turn_end}
use Rattle.routes.proofs.ask.+value_of_row_value_of_variable.Goals as goal
use Rattle.routes.proofs.ask.+value_of_row_value_of_variable.Goals.{value_of_row-then-waits, value_of_row-else-waits}

-- what is known of the row of v
started : {t : Tables} {work : List ℕ} {v r : ℕ} {trial : List ℤ} {flags : List ℕ} → RowsWorkable t work → (nat work v ≡ suc r) × (r < 65536) → Ready t work trial flags
    → Started t work v r trial flags
started w e ready = record { workable = w; row = e.0; ready = ready }

pub value_of_row-bounds-tables-r : goal.value_of_row-bounds-tables-r
value_of_row-bounds-tables-r t c =
    omega (arith, (turn-fits (started c.requires.workable c.requires.row c.requires.ready) {l = c.args.trial.now} refl).in-kinds)

pub value_of_row-bounds-tables-r-2 : goal.value_of_row-bounds-tables-r-2
value_of_row-bounds-tables-r-2 t c =
    omega (arith, (turn-fits (started c.requires.workable c.requires.row c.requires.ready) {l = c.args.trial.now} refl).in-firsts)

pub value_of_row-bounds-tables-r-3 : goal.value_of_row-bounds-tables-r-3
value_of_row-bounds-tables-r-3 t c =
    omega (arith, (turn-fits (started c.requires.workable c.requires.row c.requires.ready) {l = c.args.trial.now} refl).in-counts)

pub value_of_row-loop-i-init : goal.value_of_row-loop-i-init
value_of_row-loop-i-init t c =
    turn-start (started c.requires.workable c.requires.row c.requires.ready) c.wide-first.ensures.0 (omega (arith, c.wide-first.ensures.0, c.wide.ensures.0))

pub value_of_row-bounds-tables-i : goal.value_of_row-bounds-tables-i
value_of_row-bounds-tables-i t c =
    omega (arith, turn_inside (started c.requires.workable c.requires.row c.requires.ready) c.loop-i.invariant, c.loop-i-test.true)

-- the input at a place: it stands lower, has room, and can be asked
pub value_of_row-waits-requires : goal.value_of_row-waits-requires
value_of_row-waits-requires t c =
    let k = turn-call (started c.requires.workable c.requires.row c.requires.ready) c.loop-i.invariant c.loop-i-test.true c.wide-u.ensures.0 in (k.1, omega (arith, k.1, k.2.in-flags))

pub value_of_row-value_of_variable-requires : goal.value_of_row-value_of_variable-requires
value_of_row-value_of_variable-requires t c =
    let k = turn-call (started c.requires.workable c.requires.row c.requires.ready) c.loop-i.invariant c.loop-i-test.true c.wide-u.ensures.0 in
    (omega (arith, k.0, c.decreases), (c.requires.workable, ((k.1, c.wide-u.ensures.1), k.2)))

-- it has been asked, whether it waited or not
pub value_of_row-slice_copy_out-next_place : goal.value_of_row-slice_copy_out-next_place
value_of_row-slice_copy_out-next_place t c =
    let k = turn-call (started c.requires.workable c.requires.row c.requires.ready) c.loop-i.invariant c.loop-i-test.true c.wide-u.ensures.0 in
    let a : Asked (rows_lent c.args.tables.now) c.args.work.now c.wide-u.result c.loop-i.trial c.loop-i.flags c.if-waits.trial c.if-waits.flags
    = elim c.if-waits.branch [
      | value_of_row-then-waits w ↦ rw (w.trial-is, w.flags-is) w.value_of_variable.ensures.asked
      | value_of_row-else-waits w ↦ rw (w.trial-is, w.flags-is) (asked-still (rows_lent c.args.tables.now) c.args.work.now _ c.loop-i.flags c.loop-i.trial (sym c.waits.ensures ∙ w.if-waits.false) (turn-call (started c.requires.workable c.requires.row c.requires.ready) c.loop-i.invariant c.loop-i-test.true c.wide-u.ensures.0).2)
    ] in
    omega (arith, k.1, k.2.in-trial, a.long)

pub value_of_row-loop-i-smaller : goal.value_of_row-loop-i-smaller
value_of_row-loop-i-smaller t c =
    turn-less _ _ _ _ _ _ c.next_place-i.ensures c.loop-i-test.true

pub value_of_row-loop-i-preserved : goal.value_of_row-loop-i-preserved
value_of_row-loop-i-preserved t c =
    let a : Asked (rows_lent c.args.tables.now) c.args.work.now c.wide-u.result c.loop-i.trial c.loop-i.flags c.if-waits.trial c.if-waits.flags
    = elim c.if-waits.branch [
      | value_of_row-then-waits w ↦ rw (w.trial-is, w.flags-is) w.value_of_variable.ensures.asked
      | value_of_row-else-waits w ↦ rw (w.trial-is, w.flags-is) (asked-still (rows_lent c.args.tables.now) c.args.work.now _ c.loop-i.flags c.loop-i.trial (sym c.waits.ensures ∙ w.if-waits.false) (turn-call (started c.requires.workable c.requires.row c.requires.ready) c.loop-i.invariant c.loop-i-test.true c.wide-u.ensures.0).2)
    ] in
    let fits : SFits w32 (values_of c.if-waits.trial c.wide-u.result) = search rules in
    turn-next (started c.requires.workable c.requires.row c.requires.ready) c.loop-i.invariant c.loop-i-test.true c.wide-u.ensures.0 (to_z-of_z fits) c.next_place-i.ensures a

pub value_of_row-row_value-y-requires : goal.value_of_row-row_value-y-requires
value_of_row-row_value-y-requires t c =
    turn-fits (started c.requires.workable c.requires.row c.requires.ready) c.loop-i.invariant.asking.long

pub value_of_row-returns-clause-value : goal.value_of_row-returns-clause-value
value_of_row-returns-clause-value t c =
    (turn_end (started c.requires.workable c.requires.row c.requires.ready) c.loop-i.invariant c.loop-i-test.false (told w32 c.row_value-y.type_inv c.row_value-y.ensures)).0

pub value_of_row-returns-clause-asked : goal.value_of_row-returns-clause-asked
value_of_row-returns-clause-asked t c =
    (turn_end (started c.requires.workable c.requires.row c.requires.ready) c.loop-i.invariant c.loop-i-test.false (told w32 c.row_value-y.type_inv c.row_value-y.ensures)).1

-- a variable that does not wait is left as it stands
pub value_of_variable-returns-then-not-waits-clause-value : goal.value_of_variable-returns-then-not-waits-clause-value
value_of_variable-returns-then-not-waits-clause-value t c =
    let a = asked-still (rows_lent c.args.tables.now) c.args.work.now c.args.v c.args.flags.now c.args.trial.now (sym c.waits.ensures ∙ c.if-not-waits.true) c.requires.ready in
    let fits : SFits w32 (values_of c.args.trial.now c.args.v) = search rules in to_z-of_z fits ∙ asked-value _ _ _ _ _ _ _ a

pub value_of_variable-returns-then-not-waits-clause-asked : goal.value_of_variable-returns-then-not-waits-clause-asked
value_of_variable-returns-then-not-waits-clause-asked t c =
    asked-still (rows_lent c.args.tables.now) c.args.work.now c.args.v c.args.flags.now c.args.trial.now (sym c.waits.ensures ∙ c.if-not-waits.true) c.requires.ready
