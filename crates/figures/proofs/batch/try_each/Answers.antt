-- What was counted and added, and the figures of the moves that are left, are those of all (`Going`). Assumes nothing.
use Rattle.std.proofs.Common.{ap₂, ◌∙◌, ◌<◌, arith}
use lib.Seq.{get_or-take, length-take-le}
use Rattle.checks.specs.Moves.{move_of}
use Rattle.tables.specs.Lent.{lent_model}
use Rattle.records.specs.Left.{record_in}
use Rattle.trials.specs.Batch.{batch_lent}
use Rattle.figures.specs.Outcomes.{outcome}
use Rattle.figures.proofs.Going.{cleared-long, going_next, going_end}
use Rattle.figures.proofs.batch.try_each.Goals as goal

pub loop-lent-preserved : goal.loop-lent-preserved
loop-lent-preserved c =
    let s = record_in c.args.session in
    let w = lent_model c.args.model.now in
    let b = c.args.batch.now in
    let l = c.loop-lent in
    let o = c.try_move-outcome in
    let same = cleared-long c.args.by_number.now _ c.requires.fits.2 c.clear.ensures in
    let is = o.ensures.0 ∙ ap₂ (λ vs xs. outcome s w c.args.asked (move_of c.wide-pairs.result vs xs)) c.part.ensures c.part-in-loop-lent.ensures in
    let long = length-take-le b.moves b.pairs.now c.requires.fits.1 in
    let t = c.loop-lent-test.true in
    let low : l.lent-index < b.moves = omega arith in
    record {
      going =
          going_next s w c.args.asked (batch_lent b) _ l.by_number l.totals l.at l.lent-index c.wide-pairs.result l.invariant.going low c.requires.fits.1
          (omega (arith, same, c.requires.fits.2)) (c.wide-pairs.ensures.0 ∙ get_or-take b.moves b.pairs.now l.lent-index 0 low) o.result is o.ensures.1 c.wide-pairs.ensures.1 _ c.count.ensures _ c.add-totals.ensures;
      trial_long = o.auto.trial ∙ l.invariant.trial_long;
      flags_long = o.auto.flags ∙ l.invariant.flags_long;
    }

pub returns : goal.returns
returns c =
    let b = c.args.batch.now in
    let long = length-take-le b.moves b.pairs.now c.requires.fits.1 in
    let f = c.loop-lent-test.false in
    let end = going_end (record_in c.args.session) (lent_model c.args.model.now) c.args.asked (batch_lent b) _ _ _ _ _ c.loop-lent.invariant.going
    c.args.by_number.now c.clear.ensures c.requires.fits.2 c.requires.fits.1 (omega arith) in
    record { totals = end.0; tallies = end.1 }
