use Rattle.std.proofs.Common.{arith, rules, refl, suc, ◌<◌, ◌≤◌, ℕ, List, length}
use mathlib.Core.Logic.{◌≢◌}
use Rattle.paper.specs.Lists.{nat}
use Rattle.routes.specs.Readers.{variables}
use Rattle.closed_routes.specs.Readers.{LeadsUp}
use Rattle.closed_routes.proofs.Walks.{walked-still}
use Rattle.closed_routes.proofs.Readers.{Begun, going_start, going_end, going-row, going-call, going_step}
use Rattle.probes.specs.Touched.{Noted}
use Rattle.probes.proofs.Notes.{note-room, note-next}
use Rattle.probes.proofs.touch.+touch.Goals as goal
use Rattle.probes.proofs.touch.+touch.Goals.{then-marks-u-ne1, else-marks-u-ne1}

-- what is known of v before it is marked
begun : {makes starts places : List ℕ} (v : ℕ) (marks : List ℕ) → LeadsUp makes starts places → (suc v < length starts) × (length starts ≤ suc (length marks)) × (v < 65536)
    → Begun makes starts places v marks
begun v marks u h = record { upward = u; low = h.0; room = h.1 }

-- v is not listed yet, so there is room for it
room : (starts : List ℕ) {by marks work touched : List ℕ} {count : ℕ} (v : ℕ) → Noted (variables starts) by marks work touched count
    → (suc v < length starts) × (length starts ≤ suc (length marks)) × (v < 65536) → nat marks v ≢ 1 → count < length touched
room starts v N h ne = let low = h.0 in let long = h.1 in omega (arith, note-room _ _ _ _ _ _ N v (omega arith) (omega arith) ne, N.in_list)

pub offset_bounds-touched-count : goal.offset_bounds-touched-count
offset_bounds-touched-count t c = let r = room c.args.index.now.starts.now c.args.v c.requires.noted c.requires.there c.if-marks-v-eq1.false in search rules

pub bounds-touched-count : goal.bounds-touched-count
bounds-touched-count t c = room c.args.index.now.starts.now c.args.v c.requires.noted c.requires.there c.if-marks-v-eq1.false

pub overflow_add-listed : goal.overflow_add-listed
overflow_add-listed t c = let r = room c.args.index.now.starts.now c.args.v c.requires.noted c.requires.there c.if-marks-v-eq1.false in search rules

pub loop-i-init : goal.loop-i-init
loop-i-init t c =
    let low = c.requires.there.0 in
    let long = c.requires.there.1 in (
      going_start (begun c.args.v c.args.marks.now c.requires.upward c.requires.there) c.wide-i.ensures.0 c.wide-end.ensures.0,
      note-next _ _ _ _ _ _ c.requires.noted c.args.v (omega arith) (omega arith) c.if-marks-v-eq1.false _ _ refl refl,
    )

pub bounds-makes-wide : goal.bounds-makes-wide
bounds-makes-wide t c =
    going-row (begun c.args.v c.args.marks.now c.requires.upward c.requires.there) c.loop-i.invariant.0 c.loop-i-test.true c.wide.ensures.0

pub bounds-marks-u : goal.bounds-marks-u
bounds-marks-u t c =
    let k = going-call (begun c.args.v c.args.marks.now c.requires.upward c.requires.there) c.loop-i.invariant.0 c.loop-i-test.true c.wide.ensures.0 c.wide-u.ensures.0 c.if-marks-v-eq1.false in
    omega (arith, k.1, k.2)

pub touch-listed-requires : goal.touch-listed-requires
touch-listed-requires t c =
    let k = going-call (begun c.args.v c.args.marks.now c.requires.upward c.requires.there) c.loop-i.invariant.0 c.loop-i-test.true c.wide.ensures.0 c.wide-u.ensures.0 c.if-marks-v-eq1.false in
    (omega (arith, k.0, c.decreases), (c.requires.upward, ((k.1, k.2, c.wide-u.ensures.1), c.loop-i.invariant.1)))

-- it is touched, whether it was before or not
pub loop-i-preserved : goal.loop-i-preserved
loop-i-preserved t c =
    let b = begun c.args.v c.args.marks.now c.requires.upward c.requires.there in
    elim c.if-marks-u-ne1.branch [
      | then-marks-u-ne1 w ↦ rw (w.marks-is, w.work-is, w.touched-is, w.listed-is)
          (going_step b c.loop-i.invariant.0 c.loop-i-test.true c.wide.ensures.0 c.wide-u.ensures.0 w.touch-listed.ensures.walked, w.touch-listed.ensures.noted)
      | else-marks-u-ne1 w ↦ rw (w.marks-is, w.work-is, w.touched-is, w.listed-is)
          (going_step b c.loop-i.invariant.0 c.loop-i-test.true c.wide.ensures.0 c.wide-u.ensures.0 (walked-still _ _ _ _ (λ z. w.if-marks-u-ne1.false)), c.loop-i.invariant.1)
    ]

pub returns-clause-walked : goal.returns-clause-walked
returns-clause-walked t c = going_end (begun c.args.v c.args.marks.now c.requires.upward c.requires.there) c.loop-i.invariant.0 c.loop-i-test.false
