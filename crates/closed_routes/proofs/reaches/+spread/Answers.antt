use Rattle.std.proofs.Common.{arith, ◌<◌, ◌≤◌, ℕ, List, length, suc}
use Rattle.closed_routes.specs.Readers.{LeadsUp}
use Rattle.closed_routes.proofs.Walks.{walked-still}
use Rattle.closed_routes.proofs.Readers.{Begun, going_end, going-row, going-call, going_step}
use Rattle.closed_routes.proofs.reaches.+spread.Goals as goal
use Rattle.closed_routes.proofs.reaches.+spread.Goals.{then-marks-u-ne1, else-marks-u-ne1}

-- what is known of v before it is marked
begun : {makes starts places : List ℕ} (v : ℕ) (marks : List ℕ) → LeadsUp makes starts places → (suc v < length starts) × (length starts ≤ suc (length marks))
    → Begun makes starts places v marks
begun v marks u h = record { upward = u; low = h.0; room = h.1 }

pub bounds-makes-wide : goal.bounds-makes-wide
bounds-makes-wide t c =
    going-row (begun c.args.v c.args.marks.now c.requires.upward c.requires.there) c.loop-i.invariant c.loop-i-test.true c.wide.ensures.0

-- what the next reader makes has room, and fewer are unmarked
pub bounds-marks-u : goal.bounds-marks-u
bounds-marks-u t c =
    let k = going-call (begun c.args.v c.args.marks.now c.requires.upward c.requires.there) c.loop-i.invariant c.loop-i-test.true c.wide.ensures.0 c.wide-u.ensures.0 c.if-marks-v-eq1.false in
    omega (arith, k.1, k.2)

pub spread-requires : goal.spread-requires
spread-requires t c =
    let k = going-call (begun c.args.v c.args.marks.now c.requires.upward c.requires.there) c.loop-i.invariant c.loop-i-test.true c.wide.ensures.0 c.wide-u.ensures.0 c.if-marks-v-eq1.false in
    (omega (arith, k.0, c.decreases), (c.requires.upward, (k.1, k.2)))

-- it is marked, whether it was before or not
pub loop-i-preserved : goal.loop-i-preserved
loop-i-preserved t c =
    let b = begun c.args.v c.args.marks.now c.requires.upward c.requires.there in
    elim c.if-marks-u-ne1.branch [
      | then-marks-u-ne1 w ↦ rw w.marks-is (going_step b c.loop-i.invariant c.loop-i-test.true c.wide.ensures.0 c.wide-u.ensures.0 w.spread.ensures)
      | else-marks-u-ne1 w ↦ rw w.marks-is (going_step b c.loop-i.invariant c.loop-i-test.true c.wide.ensures.0 c.wide-u.ensures.0 (walked-still _ _ _ _ (λ z. w.if-marks-u-ne1.false)))
    ]

pub returns : goal.returns
returns t c = going_end (begun c.args.v c.args.marks.now c.requires.upward c.requires.there) c.loop-i.invariant c.loop-i-test.false
