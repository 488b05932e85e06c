-- Check 1, the checks of the model and those of the log stop the call, and past them those of fresh values, with the latest move taken back, decide. Assumes nothing.
use Rattle.std.proofs.Common.{true, ◌≡◌, sym, ◌∙◌, arith, pred}
use borrow.Author.Tests.{ltb-true}
use Rattle.paper.specs.Tables.{Tables}
use Rattle.paper.specs.Checks.{Verdict}
use lib.Dec.{ltb}
use Rattle.paper.specs.Log.{logged, back, log_good}
use Rattle.paper.specs.Calls.{take_fits, take_verdict}
use Rattle.paper.proofs.Lists.{each}
use Rattle.paper.proofs.Verdicts.{Chain, require-held, require-rest}
use Rattle.paper.proofs.Known.{log-known}
use Rattle.tables.specs.Lent.{lent_model, lent_log}
use Rattle.tables.proofs.Answered.{err-said}
use Rattle.verdicts.specs.Lent.{to_take}
use Rattle.verdicts.specs.Chains.{take_checks}
use Rattle.verdicts.proofs.Chains.{take-then}
use Rattle.verdicts.proofs.ModelJudging.{model-fitting}
use Rattle.verdicts.proofs.JudgingMoves.{model-makers, model-sound, model-closing, call-stops-1, call-stops, call-stops-2, call-stops-3, call-passed, call-last}
use Rattle.verdicts.proofs.Latest.{latest-fits}
use Rattle.verdicts.proofs.judges.judge_take_back.Goals as goal

pub returns-then-not-take_fits : goal.returns-then-not-take_fits
unfolding take_verdict
returns-then-not-take_fits c =
    let a = c.args in let w = lent_model a.model.now in
    let l = lent_log a.log.now in let x = to_take a.flags.now in
    let rest : Tables → Verdict → Verdict = λ u. take_checks l a.kept u w.bounds in
    let chain : (u : Tables) → Chain (rest u) = λ u. take-then w.bounds u l a.kept in
    call-stops-1 w a.blanks (take_fits l w x) rest chain (back l (pred (logged l))) _ _ c.refused.ensures (sym c.take_fits.ensures ∙ c.if-not-take_fits.true)

-- ── past check 1 ──
pub model_checks-requires-clause-reasons_value : goal.model_checks-requires-clause-reasons_value
model_checks-requires-clause-reasons_value c =
    let a = c.args in let w = lent_model a.model.now in
    let l = lent_log a.log.now in let x = to_take a.flags.now in
    let fits : take_fits l w x ≡ true = sym c.take_fits.ensures ∙ c.if-not-take_fits.false in
    (each _ fits).0

pub model_checks-requires-clause-n_in_bounds : goal.model_checks-requires-clause-n_in_bounds
model_checks-requires-clause-n_in_bounds c =
    let a = c.args in let w = lent_model a.model.now in
    let l = lent_log a.log.now in let x = to_take a.flags.now in
    let fits : take_fits l w x ≡ true = sym c.take_fits.ensures ∙ c.if-not-take_fits.false in
    let n = (model-fitting w a.blanks (each _ fits).0).held.n-most in omega arith

pub returns-in_err-closed : goal.returns-in_err-closed
unfolding take_verdict
returns-in_err-closed c =
    let a = c.args in let w = lent_model a.model.now in
    let l = lent_log a.log.now in let x = to_take a.flags.now in
    let rest : Tables → Verdict → Verdict = λ u. take_checks l a.kept u w.bounds in
    let chain : (u : Tables) → Chain (rest u) = λ u. take-then w.bounds u l a.kept in
    let fits : take_fits l w x ≡ true = sym c.take_fits.ensures ∙ c.if-not-take_fits.false in
    call-stops w a.blanks (take_fits l w x) rest chain (back l (pred (logged l))) fits _ _ c.model_checks.ensures _ (err-said _ _ c.from_residual.ensures.1) c.in_err-closed.was

-- ── the model accepted ──
pub take_checks-requires-clause-log_values_value : goal.take_checks-requires-clause-log_values_value
take_checks-requires-clause-log_values_value c =
    let a = c.args in let w = lent_model a.model.now in
    let l = lent_log a.log.now in let x = to_take a.flags.now in
    let fits : take_fits l w x ≡ true = sym c.take_fits.ensures ∙ c.if-not-take_fits.false in
    let f = each _ fits in f.1.1.0

pub take_checks-requires-clause-n_in_bounds : goal.take_checks-requires-clause-n_in_bounds
take_checks-requires-clause-n_in_bounds c = (model-makers (lent_model c.args.model.now) c.args.blanks _ _ c.model_checks.ensures _ c.in_ok-closed.was).long

pub returns-in_err-take_checks : goal.returns-in_err-take_checks
unfolding take_verdict
returns-in_err-take_checks c =
    let a = c.args in let w = lent_model a.model.now in
    let l = lent_log a.log.now in let x = to_take a.flags.now in
    let rest : Tables → Verdict → Verdict = λ u. take_checks l a.kept u w.bounds in
    let chain : (u : Tables) → Chain (rest u) = λ u. take-then w.bounds u l a.kept in
    let fits : take_fits l w x ≡ true = sym c.take_fits.ensures ∙ c.if-not-take_fits.false in
    call-stops-2 w a.blanks (take_fits l w x) rest chain (back l (pred (logged l))) fits _ _ c.model_checks.ensures _ c.in_ok-closed.was _ c.take_checks.ensures _
    (err-said _ _ c.from_residual-in_err-take_checks.ensures.1) c.in_err-take_checks.was

-- ── and what comes next ──
pub back_checks-requires : goal.back_checks-requires
back_checks-requires c =
    let a = c.args in let w = lent_model a.model.now in
    let l = lent_log a.log.now in let x = to_take a.flags.now in
    let rest : Tables → Verdict → Verdict = λ u. take_checks l a.kept u w.bounds in
    let chain : (u : Tables) → Chain (rest u) = λ u. take-then w.bounds u l a.kept in
    let fits : take_fits l w x ≡ true = sym c.take_fits.ensures ∙ c.if-not-take_fits.false in
    let f = each _ fits in
    let passed = call-passed w a.blanks (take_fits l w x) rest chain (back l (pred (logged l))) fits _ _ c.model_checks.ensures _ c.in_ok-closed.was _ c.take_checks.ensures _ c.in_ok-take_checks.was in record {
      sound = model-sound w a.blanks _ _ c.model_checks.ensures _ c.in_ok-closed.was;
      makers = model-makers w a.blanks _ _ c.model_checks.ensures _ c.in_ok-closed.was;
      closing = model-closing w a.blanks _ _ c.model_checks.ensures _ c.in_ok-closed.was;
      there = (model-fitting w a.blanks f.0).stored;
      latest =
          latest-fits l w.tables w.bounds a.kept
          (log-known l w.tables w.bounds a.kept f.1.1.0 (require-held 16 0 (log_good l w.tables w.bounds a.kept) _ passed))
          (ltb-true 0 (logged l) (require-held 15 0 (ltb 0 (logged l)) _ (require-rest 16 0 (log_good l w.tables w.bounds a.kept) _ passed)));
    }

pub returns-in_err-back_checks : goal.returns-in_err-back_checks
unfolding take_verdict
returns-in_err-back_checks c =
    let a = c.args in let w = lent_model a.model.now in
    let l = lent_log a.log.now in let x = to_take a.flags.now in
    let rest : Tables → Verdict → Verdict = λ u. take_checks l a.kept u w.bounds in
    let chain : (u : Tables) → Chain (rest u) = λ u. take-then w.bounds u l a.kept in
    let fits : take_fits l w x ≡ true = sym c.take_fits.ensures ∙ c.if-not-take_fits.false in
    call-stops-3 w a.blanks (take_fits l w x) rest chain (back l (pred (logged l))) fits _ _ c.model_checks.ensures _ c.in_ok-closed.was _ c.take_checks.ensures _ c.in_ok-take_checks.was _ c.back_checks.ensures _
    (err-said _ _ c.from_residual-in_err-back_checks.ensures.1) c.in_err-back_checks.was

pub returns : goal.returns
unfolding take_verdict
returns c =
    let a = c.args in let w = lent_model a.model.now in
    let l = lent_log a.log.now in let x = to_take a.flags.now in
    let rest : Tables → Verdict → Verdict = λ u. take_checks l a.kept u w.bounds in
    let chain : (u : Tables) → Chain (rest u) = λ u. take-then w.bounds u l a.kept in
    let fits : take_fits l w x ≡ true = sym c.take_fits.ensures ∙ c.if-not-take_fits.false in
    call-last w a.blanks (take_fits l w x) rest chain (back l (pred (logged l))) fits _ _ c.model_checks.ensures _ c.in_ok-closed.was _ c.take_checks.ensures _ c.in_ok-take_checks.was _ c.back_checks.ensures _ c.in_ok-back_checks.was
