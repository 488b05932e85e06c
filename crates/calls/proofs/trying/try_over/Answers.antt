-- A refusal has written nothing; an acceptance is met field by field by what `fill_trial` leaves and by the reasons asked over it. Assumes nothing.
use Rattle.std.proofs.Common.{refl, sym, arith}
use lib.Seq.{length-take-le}
use Rattle.paper.specs.Net.{moved}
use Rattle.paper.specs.Checks.{refused, pairs_of_move}
use Rattle.paper.specs.Calls.{stored_values, asked_list, route_of}
use Rattle.paper.proofs.Known.{model-meets}
use Rattle.paper.proofs.Outcomes.{trial-meets}
use Rattle.tables.specs.Lent.{lent_model}
use Rattle.verdicts.specs.Lent.{lent_to_try}
use Rattle.records.specs.Left.{record_in}
use Rattle.fills.proofs.Accepted.{trying-of, filled-long, trial-met}
use Rattle.fills.proofs.Given.{asked-given}
use Rattle.calls.proofs.Handed.{handed, stopped}
use Rattle.calls.proofs.trying.try_over.Goals as goal

pub returns-in-Err : goal.returns-in-Err
returns-in-Err c =
    let a = c.args in
    let s = record_in a.session in let w = lent_model a.model.now in
    let q = lent_to_try a.mv.now a.asked.now a.results.now a.trial.now a.flags.now a.why.now in
    let f = c.in-Err.refusal in
    trial-meets s w q _ (refused f.number f.place) (stopped s w q _ _ c.requires.judged f c.in-Err.is) refl refl refl refl refl refl

pub fill_trial-evaluations-requires : goal.fill_trial-evaluations-requires
fill_trial-evaluations-requires c =
    let a = c.args in
    let s = record_in a.session in let w = lent_model a.model.now in
    let q = lent_to_try a.mv.now a.asked.now a.results.now a.trial.now a.flags.now a.why.now in
    let h = handed s w q _ _ c.requires.judged _ c.in-Ok.is in
    record { trying = trying-of s w q h.passed; makers = h.makers; closing = h.closing }

pub slice_bounds-asked_reasons-end : goal.slice_bounds-asked_reasons-end
slice_bounds-asked_reasons-end c =
    let a = c.args in
    let s = record_in a.session in let w = lent_model a.model.now in
    let q = lent_to_try a.mv.now a.asked.now a.results.now a.trial.now a.flags.now a.why.now in
    let h = handed s w q _ _ c.requires.judged _ c.in-Ok.is in
    sym (length-take-le a.asked.now.count a.asked.now.vars.now h.known.asked-long)

pub asked_reasons-requires : goal.asked_reasons-requires
asked_reasons-requires c =
    let a = c.args in
    let s = record_in a.session in let w = lent_model a.model.now in
    let q = lent_to_try a.mv.now a.asked.now a.results.now a.trial.now a.flags.now a.why.now in
    let h = handed s w q _ _ c.requires.judged _ c.in-Ok.is in
    let ready = trying-of s w q h.passed in
    let f = c.fill_trial-evaluations.ensures in
    record {
      sound = h.known.model.sound;
      room = (
        filled-long w.tables.n _ a.trial.now _ f.trial-is ready.in-trial,
        filled-long w.tables.n _ a.flags.now _ f.flags-are ready.keeping.in-flags,
        h.known.model.reasons-long,
        omega (arith, length-take-le a.asked.now.count a.asked.now.vars.now h.known.asked-long, h.known.why-long),
      );
      known = ready.asked;
      makers = h.makers;
    }

pub returns : goal.returns
returns c =
    let a = c.args in
    let s = record_in a.session in let w = lent_model a.model.now in
    let q = lent_to_try a.mv.now a.asked.now a.results.now a.trial.now a.flags.now a.why.now in
    let h = handed s w q _ _ c.requires.judged _ c.in-Ok.is in
    let k = h.known in
    let f = c.fill_trial-evaluations.ensures in
    trial-met s w q _ _ _ _ _ h.passed f
    (asked-given w.tables k.model.sound (route_of q.route) (stored_values w) (pairs_of_move q.move) (asked_list q)
    (model-meets w k.model k.fresh (moved (pairs_of_move q.move) (stored_values w)) k.determined (route_of q.route))
    (trying-of s w q h.passed).asked _ a.trial.now f.trial-is _ a.flags.now f.flags-are a.model.now.reasons.now a.asked.now.vars.now _ a.why.now _ a.asked.now.count
    refl k.asked-long k.asked c.asked_reasons.ensures)
