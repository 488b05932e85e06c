-- Check 1, the checks of the model and those of the move and of the log stop the call, and past them those of fresh values decide. Assumes nothing.
use Rattle.std.proofs.Common.{true, ◌≡◌, sym, ◌∙◌, arith}
use Rattle.paper.specs.Tables.{Tables}
use Rattle.paper.specs.Checks.{Verdict}
use Rattle.paper.specs.Calls.{keep_fits, keep_verdict}
use Rattle.paper.proofs.Lists.{each}
use Rattle.paper.proofs.Verdicts.{Chain}
use Rattle.tables.specs.Lent.{lent_model, lent_log}
use Rattle.tables.proofs.Answered.{err-said}
use Rattle.verdicts.specs.Lent.{lent_to_keep}
use Rattle.verdicts.specs.Chains.{keep_checks}
use Rattle.verdicts.proofs.Chains.{keep-then}
use Rattle.verdicts.proofs.ModelJudging.{model-fitting}
use Rattle.verdicts.proofs.JudgingMoves.{pairs-fit, model-makers, model-sound, model-closing, move-ready, call-stops-1, call-stops, call-stops-2, call-stops-3, call-passed, call-last}
use Rattle.verdicts.proofs.judges.judge_keep.Goals as goal

pub returns-then-not-keep_fits : goal.returns-then-not-keep_fits
unfolding keep_verdict
returns-then-not-keep_fits c =
    let a = c.args in let w = lent_model a.model.now in
    let l = lent_log a.log.now in let x = lent_to_keep a.mv.now a.flags.now in
    let rest : Tables → Verdict → Verdict = λ u. keep_checks l x.move a.kept u w.bounds in
    let chain : (u : Tables) → Chain (rest u) = λ u. keep-then w.bounds u l x.move a.kept in
    call-stops-1 w a.blanks (keep_fits l w x) rest chain x.move _ _ c.refused.ensures (sym c.keep_fits.ensures ∙ c.if-not-keep_fits.true)

-- ── past check 1 ──
pub model_checks-requires-clause-reasons_value : goal.model_checks-requires-clause-reasons_value
model_checks-requires-clause-reasons_value c =
    let a = c.args in let w = lent_model a.model.now in
    let l = lent_log a.log.now in let x = lent_to_keep a.mv.now a.flags.now in
    let fits : keep_fits l w x ≡ true = sym c.keep_fits.ensures ∙ c.if-not-keep_fits.false in
    (each _ fits).0

pub model_checks-requires-clause-n_in_bounds : goal.model_checks-requires-clause-n_in_bounds
model_checks-requires-clause-n_in_bounds c =
    let a = c.args in let w = lent_model a.model.now in
    let l = lent_log a.log.now in let x = lent_to_keep a.mv.now a.flags.now in
    let fits : keep_fits l w x ≡ true = sym c.keep_fits.ensures ∙ c.if-not-keep_fits.false in
    let n = (model-fitting w a.blanks (each _ fits).0).held.n-most in omega arith

pub returns-in_err-closed : goal.returns-in_err-closed
unfolding keep_verdict
returns-in_err-closed c =
    let a = c.args in let w = lent_model a.model.now in
    let l = lent_log a.log.now in let x = lent_to_keep a.mv.now a.flags.now in
    let rest : Tables → Verdict → Verdict = λ u. keep_checks l x.move a.kept u w.bounds in
    let chain : (u : Tables) → Chain (rest u) = λ u. keep-then w.bounds u l x.move a.kept in
    let fits : keep_fits l w x ≡ true = sym c.keep_fits.ensures ∙ c.if-not-keep_fits.false in
    call-stops w a.blanks (keep_fits l w x) rest chain x.move fits _ _ c.model_checks.ensures _ (err-said _ _ c.from_residual.ensures.1) c.in_err-closed.was

-- ── the model accepted ──
pub keep_checks-requires-clause-n_in_bounds : goal.keep_checks-requires-clause-n_in_bounds
keep_checks-requires-clause-n_in_bounds c =
    let a = c.args in let w = lent_model a.model.now in
    let l = lent_log a.log.now in let x = lent_to_keep a.mv.now a.flags.now in
    let fits : keep_fits l w x ≡ true = sym c.keep_fits.ensures ∙ c.if-not-keep_fits.false in
    move-ready w a.blanks _ _ c.model_checks.ensures _ c.in_ok-closed.was x.move (each _ fits).1.0

pub keep_checks-requires-clause-log_values_value : goal.keep_checks-requires-clause-log_values_value
keep_checks-requires-clause-log_values_value c =
    let a = c.args in let w = lent_model a.model.now in
    let l = lent_log a.log.now in let x = lent_to_keep a.mv.now a.flags.now in
    let fits : keep_fits l w x ≡ true = sym c.keep_fits.ensures ∙ c.if-not-keep_fits.false in
    let f = each _ fits in f.1.1.1.0

pub returns-in_err-keep_checks : goal.returns-in_err-keep_checks
unfolding keep_verdict
returns-in_err-keep_checks c =
    let a = c.args in let w = lent_model a.model.now in
    let l = lent_log a.log.now in let x = lent_to_keep a.mv.now a.flags.now in
    let rest : Tables → Verdict → Verdict = λ u. keep_checks l x.move a.kept u w.bounds in
    let chain : (u : Tables) → Chain (rest u) = λ u. keep-then w.bounds u l x.move a.kept in
    let fits : keep_fits l w x ≡ true = sym c.keep_fits.ensures ∙ c.if-not-keep_fits.false in
    call-stops-2 w a.blanks (keep_fits l w x) rest chain x.move fits _ _ c.model_checks.ensures _ c.in_ok-closed.was _ c.keep_checks.ensures _
    (err-said _ _ c.from_residual-in_err-keep_checks.ensures.1) c.in_err-keep_checks.was

-- ── and what comes next ──
pub fresh_checks-requires : goal.fresh_checks-requires
fresh_checks-requires c =
    let a = c.args in let w = lent_model a.model.now in
    let l = lent_log a.log.now in let x = lent_to_keep a.mv.now a.flags.now in
    let rest : Tables → Verdict → Verdict = λ u. keep_checks l x.move a.kept u w.bounds in
    let chain : (u : Tables) → Chain (rest u) = λ u. keep-then w.bounds u l x.move a.kept in
    let fits : keep_fits l w x ≡ true = sym c.keep_fits.ensures ∙ c.if-not-keep_fits.false in
    let f = each _ fits in
    let passed = call-passed w a.blanks (keep_fits l w x) rest chain x.move fits _ _ c.model_checks.ensures _ c.in_ok-closed.was _ c.keep_checks.ensures _ c.in_ok-keep_checks.was in record {
      sound = model-sound w a.blanks _ _ c.model_checks.ensures _ c.in_ok-closed.was;
      makers = model-makers w a.blanks _ _ c.model_checks.ensures _ c.in_ok-closed.was;
      closing = model-closing w a.blanks _ _ c.model_checks.ensures _ c.in_ok-closed.was;
      there = (model-fitting w a.blanks f.0).stored;
      fits = pairs-fit w.tables w.bounds x.move _ f.1.0 passed;
    }

pub returns-in_err-fresh_checks : goal.returns-in_err-fresh_checks
unfolding keep_verdict
returns-in_err-fresh_checks c =
    let a = c.args in let w = lent_model a.model.now in
    let l = lent_log a.log.now in let x = lent_to_keep a.mv.now a.flags.now in
    let rest : Tables → Verdict → Verdict = λ u. keep_checks l x.move a.kept u w.bounds in
    let chain : (u : Tables) → Chain (rest u) = λ u. keep-then w.bounds u l x.move a.kept in
    let fits : keep_fits l w x ≡ true = sym c.keep_fits.ensures ∙ c.if-not-keep_fits.false in
    call-stops-3 w a.blanks (keep_fits l w x) rest chain x.move fits _ _ c.model_checks.ensures _ c.in_ok-closed.was _ c.keep_checks.ensures _ c.in_ok-keep_checks.was _ c.fresh_checks.ensures _
    (err-said _ _ c.from_residual-in_err-fresh_checks.ensures.1) c.in_err-fresh_checks.was

pub returns : goal.returns
unfolding keep_verdict
returns c =
    let a = c.args in let w = lent_model a.model.now in
    let l = lent_log a.log.now in let x = lent_to_keep a.mv.now a.flags.now in
    let rest : Tables → Verdict → Verdict = λ u. keep_checks l x.move a.kept u w.bounds in
    let chain : (u : Tables) → Chain (rest u) = λ u. keep-then w.bounds u l x.move a.kept in
    let fits : keep_fits l w x ≡ true = sym c.keep_fits.ensures ∙ c.if-not-keep_fits.false in
    call-last w a.blanks (keep_fits l w x) rest chain x.move fits _ _ c.model_checks.ensures _ c.in_ok-closed.was _ c.keep_checks.ensures _ c.in_ok-keep_checks.was _ c.fresh_checks.ensures _ c.in_ok-fresh_checks.was
