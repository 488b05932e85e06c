-- What is filled in, and what the moves that are left will be given, are what all are given (`Going`). Assumes nothing.
use Rattle.std.proofs.Common.{ap₂, arith}
use Rattle.checks.specs.Moves.{move_of}
use Rattle.trials.proofs.Going.{fitting, going_start, going-room, going-low, going_next, going_end}
use Rattle.trials.proofs.batch.try_each.Goals as goal

pub loop-i-init : goal.loop-i-init
loop-i-init c = record { fit = fitting _ _ _ c.requires.fit; going = going_start _ _ _ _ _ }

pub bounds-batch-i : goal.bounds-batch-i
bounds-batch-i c = omega (arith, c.loop-i.invariant.fit.each-pairs)

pub part-requires : goal.part-requires
part-requires c = omega (arith, c.loop-i.invariant.fit.few, c.loop-i.invariant.going.first-most, c.loop-i.invariant.going.within)

pub try_at-answer-requires-clause-rows : goal.try_at-answer-requires-clause-rows
try_at-answer-requires-clause-rows c =
    let l = c.loop-i in
    let room = going-room _ _ _ _ _ l.invariant.fit _ _ _ _ _ l.invariant.going c.loop-i-test.true in
    (room.3, room.4, omega (arith, room.5))

pub note-evaluations-requires : goal.note-evaluations-requires
note-evaluations-requires c =
    let l = c.loop-i in
    let room = going-room _ _ _ _ _ l.invariant.fit _ _ _ _ _ l.invariant.going c.loop-i-test.true in (room.0, room.1, room.2)

pub overflow_add-evaluations : goal.overflow_add-evaluations
overflow_add-evaluations c =
    let l = c.loop-i in
    let k = c.wide-pairs in
    let low = going-low _ _ _ _ _ l.invariant.fit _ _ _ _ _ l.invariant.going c.loop-i-test.true k.result k.ensures.0 _
    (ap₂ (move_of k.result) c.part.ensures c.part-in-loop-i.ensures) _ _ _ c.try_at-answer.ensures in
    omega (arith, low, l.invariant.fit.few, l.invariant.going.few, l.invariant.going.within, c.note-evaluations.ensures.0)

pub overflow_add-first : goal.overflow_add-first
overflow_add-first c = omega (arith, c.loop-i.invariant.fit.few, c.loop-i.invariant.going.first-most, c.loop-i.invariant.going.within)

pub overflow_add-at : goal.overflow_add-at
overflow_add-at c =
    let l = c.loop-i in
    let room = going-room _ _ _ _ _ l.invariant.fit _ _ _ _ _ l.invariant.going c.loop-i-test.true in omega (arith, room.5)

pub loop-i-preserved : goal.loop-i-preserved
loop-i-preserved c =
    let l = c.loop-i in
    let k = c.wide-pairs in
    let n = c.note-evaluations.ensures in
    record {
      fit = l.invariant.fit;
      going =
          going_next _ _ _ _ _ l.invariant.fit _ _ _ _ _ l.invariant.going c.loop-i-test.true k.result k.ensures.0 _
          (ap₂ (move_of k.result) c.part.ensures c.part-in-loop-i.ensures) _ _ _ c.try_at-answer.ensures
          k.ensures.1 c.try_at-answer.auto.results c.try_at-answer.auto.why _ _ _ n.1 n.2 n.3 _ n.0;
    }

pub returns : goal.returns
returns c =
    let told = going_end _ _ _ _ _ c.loop-i.invariant.fit _ _ _ _ _ c.loop-i.invariant.going (omega arith) in record { told = told.0; filled = told.1 }
