use Rattle.std.proofs.Common.{arith, ◌≡◌, ◌≤◌, ◌+◌, length, ℕ, List, [], refl, ap₂, subst}
use Rattle.std.proofs.Math.Seq.{slice}
use Rattle.paper.specs.Lists.{nat}
use Rattle.groups.specs.Links.{links_of}
use Rattle.order.proofs.Visits.{left-next, left-none}
use Rattle.groups.specs.Stack.{Waits, asked_at, first_number, Best}
use Rattle.groups.proofs.Entering.{Begun, enter-room, enter-begun, enter-state}
use Rattle.groups.proofs.Going.{Going, going_start, going-at, going_less, going-link, going_next, going_step, going-back}
use Rattle.groups.proofs.Closing.{first_of, number_short, closes}
use Rattle.groups.proofs.walk.+visit.Goals as goal

pub enter-place-requires : goal.enter-place-requires
enter-place-requires t c =
    let unseen : nat c.args.marks.now c.args.v ≡ 0 = omega (arith, c.wide-known.ensures.0, c.if-known-gt0.false) in
    let room = enter-room _ _ _ _ _ _ c.requires.state c.requires.laid.few c.requires.there unseen in
    (omega (arith, c.requires.there, c.requires.laid.few), omega (arith, room, c.requires.laid.few))

-- v stands on the stack
pub loop-i-init : goal.loop-i-init
loop-i-init t c =
    let unseen : nat c.args.marks.now c.args.v ≡ 0 = omega (arith, c.wide-known.ensures.0, c.if-known-gt0.false) in
    let begun : Begun c.args.links.now.n (links_of c.args.links.now) c.args.v c.enter-place.result c.args.marks.now c.enter-place.new.marks c.enter-place.new.stack
    = enter-begun _ _ _ _ _ _ c.requires.state c.requires.laid.few c.requires.there unseen c.requires.leading _ _ _
    c.enter-place.ensures.0 c.enter-place.ensures.1 c.enter-place.ensures.2 in
    going_start _ _ _ _ _ _ _ begun _ _ _
    (enter-state _ _ _ _ _ _ c.requires.state c.requires.laid.few c.requires.there unseen c.requires.leading _ _ _
    c.enter-place.ensures.0 c.enter-place.ensures.1 c.enter-place.ensures.2)
    (ap₂ (λ a b. slice a b c.args.links.now.vars.now) c.wide-i.ensures.0 c.wide-i-end.ensures.0) refl

-- the next link is the first of those that are left
pub visit-requires : goal.visit-requires
visit-requires t c =
    let unseen : nat c.args.marks.now c.args.v ≡ 0 = omega (arith, c.wide-known.ensures.0, c.if-known-gt0.false) in
    let begun : Begun c.args.links.now.n (links_of c.args.links.now) c.args.v c.enter-place.result c.args.marks.now c.enter-place.new.marks c.enter-place.new.stack
    = enter-begun _ _ _ _ _ _ c.requires.state c.requires.laid.few c.requires.there unseen c.requires.leading _ _ _
    c.enter-place.ensures.0 c.enter-place.ensures.1 c.enter-place.ensures.2 in
    let inside : c.wide-i-end.result ≤ length c.args.links.now.vars.now = omega (arith, c.requires.laid.inside c.args.v, c.wide-i-end.ensures.0) in
    let next = left-next c.args.links.now.vars.now c.loop-i.i c.wide-i-end.result c.wide.result c.loop-i-test.true inside c.wide.ensures.0 in
    let less = going_less _ _ _ _ _ _ _ begun _ _ _ _ _ c.loop-i.invariant in
    let link = going-link _ _ _ _ _ _ _ begun _ _ _ _ _ c.loop-i.invariant _ _ next in
    (omega (arith, less, c.decreases), (c.requires.laid, (c.requires.laid.below _ _ link, (c.loop-i.invariant.state, going_next _ _ _ _ _ _ _ begun _ _ _ _ _ c.loop-i.invariant _ _ next))))

pub loop-i-preserved : goal.loop-i-preserved
loop-i-preserved t c =
    let unseen : nat c.args.marks.now c.args.v ≡ 0 = omega (arith, c.wide-known.ensures.0, c.if-known-gt0.false) in
    let begun : Begun c.args.links.now.n (links_of c.args.links.now) c.args.v c.enter-place.result c.args.marks.now c.enter-place.new.marks c.enter-place.new.stack
    = enter-begun _ _ _ _ _ _ c.requires.state c.requires.laid.few c.requires.there unseen c.requires.leading _ _ _
    c.enter-place.ensures.0 c.enter-place.ensures.1 c.enter-place.ensures.2 in
    let inside : c.wide-i-end.result ≤ length c.args.links.now.vars.now = omega (arith, c.requires.laid.inside c.args.v, c.wide-i-end.ensures.0) in
    let next = left-next c.args.links.now.vars.now c.loop-i.i c.wide-i-end.result c.wide.result c.loop-i-test.true inside c.wide.ensures.0 in
    going_step _ _ _ _ _ _ _ begun _ _ _ _ _ c.loop-i.invariant _ _ next _ _ _ _ _ c.visit.ensures c.min-low.ensures

-- all links have been visited
ended-of : {n v p low : ℕ} {dep : ℕ → List ℕ} {mid marks stack numbers : List ℕ} (i stop : ℕ) (vars : List ℕ) → Going n dep v p (slice i stop vars) low mid marks stack numbers
    → stop ≤ i → Going n dep v p [] low mid marks stack numbers
ended-of {n = n} {v = v} {p = p} {low = low} {dep = dep} {mid = mid} {marks = marks} {stack = stack} {numbers = numbers} i stop vars G h =
    subst (λ rest. Going n dep v p rest low mid marks stack numbers) (left-none vars i stop h) G

pub returns-then-low-place : goal.returns-then-low-place
returns-then-low-place t c =
    let unseen : nat c.args.marks.now c.args.v ≡ 0 = omega (arith, c.wide-known.ensures.0, c.if-known-gt0.false) in
    let begun : Begun c.args.links.now.n (links_of c.args.links.now) c.args.v c.enter-place.result c.args.marks.now c.enter-place.new.marks c.enter-place.new.stack
    = enter-begun _ _ _ _ _ _ c.requires.state c.requires.laid.few c.requires.there unseen c.requires.leading _ _ _
    c.enter-place.ensures.0 c.enter-place.ensures.1 c.enter-place.ensures.2 in
    let ended = ended-of c.loop-i.i c.wide-i-end.result c.args.links.now.vars.now c.loop-i.invariant c.loop-i-test.false in
    going-back _ _ _ _ _ _ _ begun _ _ _ _ _ ended refl c.if-low-place.true

-- v stands on the stack, and no place below it was met
pub group_number-number-requires-clause-waits : goal.group_number-number-requires-clause-waits
group_number-number-requires-clause-waits t c =
    let unseen : nat c.args.marks.now c.args.v ≡ 0 = omega (arith, c.wide-known.ensures.0, c.if-known-gt0.false) in
    let begun : Begun c.args.links.now.n (links_of c.args.links.now) c.args.v c.enter-place.result c.args.marks.now c.enter-place.new.marks c.enter-place.new.stack
    = enter-begun _ _ _ _ _ _ c.requires.state c.requires.laid.few c.requires.there unseen c.requires.leading _ _ _
    c.enter-place.ensures.0 c.enter-place.ensures.1 c.enter-place.ensures.2 in
    let at = going-at _ _ _ _ _ _ _ begun _ _ _ _ _ c.loop-i.invariant in
    let waits : Waits c.loop-i.marks c.args.v = record { some = omega (arith, at, begun.some); few = omega (arith, at, begun.small, begun.few) } in
    (c.requires.there, waits)

pub group_number-number-requires-clause-stacked : goal.group_number-number-requires-clause-stacked
group_number-number-requires-clause-stacked t c = c.loop-i.invariant.state.stacked

-- the number is the greatest that the links from v's place on ask
pub overflow_cast-number : goal.overflow_cast-number
overflow_cast-number t c =
    let unseen : nat c.args.marks.now c.args.v ≡ 0 = omega (arith, c.wide-known.ensures.0, c.if-known-gt0.false) in
    let begun : Begun c.args.links.now.n (links_of c.args.links.now) c.args.v c.enter-place.result c.args.marks.now c.enter-place.new.marks c.enter-place.new.stack
    = enter-begun _ _ _ _ _ _ c.requires.state c.requires.laid.few c.requires.there unseen c.requires.leading _ _ _
    c.enter-place.ensures.0 c.enter-place.ensures.1 c.enter-place.ensures.2 in
    let ended = ended-of c.loop-i.i c.wide-i-end.result c.args.links.now.vars.now c.loop-i.invariant c.loop-i-test.false in
    let at = going-at _ _ _ _ _ _ _ begun _ _ _ _ _ c.loop-i.invariant in
    let first = first_of c.args.links.now.begins.now c.args.links.now.stops.now c.args.links.now.vars.now c.args.v (c.requires.laid.inside c.args.v) in
    let best = subst (λ p. Best (asked_at (links_of c.args.links.now) c.loop-i.marks c.loop-i.stack c.loop-i.numbers) p (nat c.loop-i.stack 0 + 1)
    (first_number c.args.links.now.begins.now c.args.links.now.stops.now c.args.v) c.group_number-number.result) at c.group_number-number.ensures in
    let short = number_short _ _ _ _ _ _ _ begun _ _ _ _ ended c.if-low-place.false _ _ first best in
    omega (arith, short)

pub mark_group-requires-clause-place : goal.mark_group-requires-clause-place
mark_group-requires-clause-place t c =
    let unseen : nat c.args.marks.now c.args.v ≡ 0 = omega (arith, c.wide-known.ensures.0, c.if-known-gt0.false) in
    let begun : Begun c.args.links.now.n (links_of c.args.links.now) c.args.v c.enter-place.result c.args.marks.now c.enter-place.new.marks c.enter-place.new.stack
    = enter-begun _ _ _ _ _ _ c.requires.state c.requires.laid.few c.requires.there unseen c.requires.leading _ _ _
    c.enter-place.ensures.0 c.enter-place.ensures.1 c.enter-place.ensures.2 in
    let at = going-at _ _ _ _ _ _ _ begun _ _ _ _ _ c.loop-i.invariant in
    let waits : Waits c.loop-i.marks c.args.v = record { some = omega (arith, at, begun.some); few = omega (arith, at, begun.small, begun.few) } in
    let back = (c.loop-i.invariant.state.stacked.back _ waits).0 in
    (begun.some, omega (arith, at, back))

pub mark_group-requires-clause-there : goal.mark_group-requires-clause-there
mark_group-requires-clause-there t c = (c.requires.laid.few, c.loop-i.invariant.state.settled.long)

pub mark_group-requires-clause-stacked : goal.mark_group-requires-clause-stacked
mark_group-requires-clause-stacked t c = c.loop-i.invariant.state.stacked

pub returns : goal.returns
returns t c =
    let unseen : nat c.args.marks.now c.args.v ≡ 0 = omega (arith, c.wide-known.ensures.0, c.if-known-gt0.false) in
    let begun : Begun c.args.links.now.n (links_of c.args.links.now) c.args.v c.enter-place.result c.args.marks.now c.enter-place.new.marks c.enter-place.new.stack
    = enter-begun _ _ _ _ _ _ c.requires.state c.requires.laid.few c.requires.there unseen c.requires.leading _ _ _
    c.enter-place.ensures.0 c.enter-place.ensures.1 c.enter-place.ensures.2 in
    let ended = ended-of c.loop-i.i c.wide-i-end.result c.args.links.now.vars.now c.loop-i.invariant c.loop-i-test.false in
    let at = going-at _ _ _ _ _ _ _ begun _ _ _ _ _ c.loop-i.invariant in
    let first = first_of c.args.links.now.begins.now c.args.links.now.stops.now c.args.links.now.vars.now c.args.v (c.requires.laid.inside c.args.v) in
    let best = subst (λ p. Best (asked_at (links_of c.args.links.now) c.loop-i.marks c.loop-i.stack c.loop-i.numbers) p (nat c.loop-i.stack 0 + 1)
    (first_number c.args.links.now.begins.now c.args.links.now.stops.now c.args.v) c.group_number-number.result) at c.group_number-number.ensures in
    closes _ _ _ _ _ _ _ begun _ _ _ _ ended c.if-low-place.false _ _ first best
    _ _ _ _ c.mark_group.ensures refl refl
