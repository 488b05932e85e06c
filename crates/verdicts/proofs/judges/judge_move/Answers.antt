-- What the move is lent, the model's refusal and the checks of what is asked stop it, and past them those of fresh values decide. Assumes nothing.
use Rattle.std.proofs.Common.{sym}
use Rattle.tables.specs.Lent.{lent_model}
use Rattle.tables.proofs.Answered.{err-said}
use Rattle.verdicts.specs.Lent.{lent_to_try}
use Rattle.verdicts.proofs.JudgingTrials.{stops-unfit, stops-model, ask-ready, stops-asked, fresh-ready, stops-fresh, fresh-decides}
use Rattle.verdicts.proofs.judges.judge_move.Goals as goal

pub returns-then-not-move_fits : goal.returns-then-not-move_fits
returns-then-not-move_fits c =
    let a = c.args in let w = lent_model a.model.now in
    let x = lent_to_try a.mv.now a.asked.now a.results.now a.trial.now a.flags.now a.why.now in
    stops-unfit a.blanks w x _ _ c.refused.ensures (sym c.if-not-move_fits.ensures)

-- ── past check 1 ──
pub returns-in_err-closed : goal.returns-in_err-closed
returns-in_err-closed c =
    let a = c.args in let w = lent_model a.model.now in
    let x = lent_to_try a.mv.now a.asked.now a.results.now a.trial.now a.flags.now a.why.now in
    let own = sym c.if-not-move_fits.ensures in
    stops-model a.blanks w x own _ _ c.requires.judged _ (err-said _ _ c.from_residual.ensures.1) c.in_err-closed.was

-- ── the model accepted ──
pub ask_checks-requires-clause-n_in_bounds : goal.ask_checks-requires-clause-n_in_bounds
ask_checks-requires-clause-n_in_bounds c =
    let a = c.args in let w = lent_model a.model.now in
    let x = lent_to_try a.mv.now a.asked.now a.results.now a.trial.now a.flags.now a.why.now in
    let own = sym c.if-not-move_fits.ensures in
    (ask-ready a.blanks w x own _ _ c.requires.judged _ c.in_ok-closed.was).0

pub ask_checks-requires-clause-asked_bound : goal.ask_checks-requires-clause-asked_bound
ask_checks-requires-clause-asked_bound c =
    let a = c.args in let w = lent_model a.model.now in
    let x = lent_to_try a.mv.now a.asked.now a.results.now a.trial.now a.flags.now a.why.now in
    let own = sym c.if-not-move_fits.ensures in
    (ask-ready a.blanks w x own _ _ c.requires.judged _ c.in_ok-closed.was).1

pub returns-in_err-ask_checks : goal.returns-in_err-ask_checks
returns-in_err-ask_checks c =
    let a = c.args in let w = lent_model a.model.now in
    let x = lent_to_try a.mv.now a.asked.now a.results.now a.trial.now a.flags.now a.why.now in
    let own = sym c.if-not-move_fits.ensures in
    stops-asked a.blanks w x own _ _ c.requires.judged _ c.in_ok-closed.was _ c.ask_checks.ensures _ (err-said _ _ c.from_residual-in_err-ask_checks.ensures.1) c.in_err-ask_checks.was

-- ── and what is asked ──
pub fresh_checks-requires : goal.fresh_checks-requires
fresh_checks-requires c =
    let a = c.args in let w = lent_model a.model.now in
    let x = lent_to_try a.mv.now a.asked.now a.results.now a.trial.now a.flags.now a.why.now in
    let own = sym c.if-not-move_fits.ensures in
    let r = fresh-ready a.blanks w x own _ _ c.requires.judged _ c.in_ok-closed.was _ c.ask_checks.ensures _ c.in_ok-ask_checks.was in
    record { sound = r.sound; makers = r.makers; closing = r.closing; there = r.there; fits = r.fits }

pub returns-in_err-fresh_checks : goal.returns-in_err-fresh_checks
returns-in_err-fresh_checks c =
    let a = c.args in let w = lent_model a.model.now in
    let x = lent_to_try a.mv.now a.asked.now a.results.now a.trial.now a.flags.now a.why.now in
    let own = sym c.if-not-move_fits.ensures in
    stops-fresh a.blanks w x own _ _ c.requires.judged _ c.in_ok-closed.was _ c.ask_checks.ensures _ c.in_ok-ask_checks.was _ c.fresh_checks.ensures _
    (err-said _ _ c.from_residual-in_err-fresh_checks.ensures.1) c.in_err-fresh_checks.was

pub returns : goal.returns
returns c =
    let a = c.args in let w = lent_model a.model.now in
    let x = lent_to_try a.mv.now a.asked.now a.results.now a.trial.now a.flags.now a.why.now in
    let own = sym c.if-not-move_fits.ensures in
    fresh-decides a.blanks w x own _ _ c.requires.judged _ c.in_ok-closed.was _ c.ask_checks.ensures _ c.in_ok-ask_checks.was _ c.fresh_checks.ensures _ c.in_ok-fresh_checks.was
