-- A refusal has written nothing; an acceptance is met field by field by what `fill_model` leaves. Assumes nothing.
use native.Mathlib.Omega.{arith}
use mathlib.Core.Path.{◌≡◌, refl, sym, ap, ◌∙◌}
use Rattle.paper.specs.Checks.{accepted, refused}
use Rattle.paper.specs.Chains.{worth}
use Rattle.paper.specs.Calls.{BuildLent, start_values, build_verdict}
use Rattle.paper.proofs.Outcomes.{build-meets}
use Rattle.paper.proofs.Known.{build-known}
use Rattle.std.specs.Prelude.{Result, Ok}
use Rattle.tables.specs.declared.Refusal.{Refusal}
use Rattle.tables.specs.Answers.{answer_of}
use Rattle.tables.proofs.Answered.{accepted-is, refused-is}
use Rattle.tables.specs.Lent.{lent_bounds}
use Rattle.verdicts.specs.Lent.{no_record, lent_to_build}
use Rattle.chains.proofs.Kinded.{permitted-kinded}
use Rattle.records.specs.Left.{record_in}
use Rattle.build.proofs.BuildJudging.{any-session, fitting}
use Rattle.fills.proofs.Accepted.{filled-long, blanks-over}
use Rattle.build.proofs.building.build_over.Goals as goal

-- what is accepted without a record is accepted
passed : (l : BuildLent) {q : Result Unit Refusal} {k : Unit} → q ≡ answer_of tt (build_verdict (record { session = no_record; tables = l.tables; bounds = l.bounds; starts = l.starts; numbers = l.numbers; order = l.order; stored = l.stored; index = l.index; reasons = l.reasons; log_sizes = l.log_sizes })) → q ≡ Ok k
    → build_verdict l ≡ accepted
passed l {q} {k} verdict is = any-session l no_record ∙ accepted-is tt k _ (sym verdict ∙ is)

pub returns-in-Err : goal.returns-in-Err
returns-in-Err c =
    let a = c.args in
    let l = lent_to_build (record_in a.session) a.tables.now (lent_bounds a.bounds.now) a.starts.now a.numbers.now a.order.now a.stored.now a.reader_starts.now a.reader_places.now a.reasons.now a.log_sizes.now in
    let f = c.in-Err.refusal in
    let v = any-session l no_record ∙ refused-is tt f _ (sym c.judge_build-judged.ensures.verdict ∙ c.in-Err.is) in
    build-meets l _ (refused f.number f.place) v refl refl refl refl refl refl refl refl

pub fill_model-requires : goal.fill_model-requires
fill_model-requires c =
    let a = c.args in
    let l = lent_to_build (record_in a.session) a.tables.now (lent_bounds a.bounds.now) a.starts.now a.numbers.now a.order.now a.stored.now a.reader_starts.now a.reader_places.now a.reasons.now a.log_sizes.now in
    let k = build-known l (passed l c.judge_build-judged.ensures.verdict c.in_default.is) in
    let fit = fitting l k.fits in record {
      buildable = record {
        sound = k.sound;
        grouped = record {
          permitted = λ v h. ap (λ f. f v) (permitted-kinded l.tables) ∙ k.permitted v h;
          shared = c.judge_build-judged.ensures.shared (accepted-is tt _ _ (sym c.judge_build-judged.ensures.verdict ∙ c.in_default.is));
        };
        determined = k.determined;
        in-starts = fit.starts;
        in-numbers = fit.numbers;
        in_order = fit.order;
        in-stored = fit.stored;
        index-starts = fit.index-starts;
        index-places = fit.index-places;
        in-reasons = fit.reasons;
        in-log = fit.log;
      };
    }

pub overflow_cast-evaluations : goal.overflow_cast-evaluations
overflow_cast-evaluations c =
    let a = c.args in
    let l = lent_to_build (record_in a.session) a.tables.now (lent_bounds a.bounds.now) a.starts.now a.numbers.now a.order.now a.stored.now a.reader_starts.now a.reader_places.now a.reasons.now a.log_sizes.now in
    let z = (fitting l (build-known l (passed l c.judge_build-judged.ensures.verdict c.in_default.is)).fits).held in
    record { fits = omega (arith, z.m-most, z.n-most) }

pub blanks_among-blanks-requires : goal.blanks_among-blanks-requires
blanks_among-blanks-requires c =
    let a = c.args in
    let l = lent_to_build (record_in a.session) a.tables.now (lent_bounds a.bounds.now) a.starts.now a.numbers.now a.order.now a.stored.now a.reader_starts.now a.reader_places.now a.reasons.now a.log_sizes.now in
    let fit = fitting l (build-known l (passed l c.judge_build-judged.ensures.verdict c.in_default.is)).fits in
    (filled-long l.tables.n (worth l.tables (start_values l)) l.stored _ c.fill_model.ensures.stored_after fit.stored, fit.held.n-most)

pub returns : goal.returns
returns c =
    let a = c.args in
    let l = lent_to_build (record_in a.session) a.tables.now (lent_bounds a.bounds.now) a.starts.now a.numbers.now a.order.now a.stored.now a.reader_starts.now a.reader_places.now a.reasons.now a.log_sizes.now in
    let left = c.fill_model.ensures in
    build-meets l _ accepted (passed l c.judge_build-judged.ensures.verdict c.in_default.is) refl
    (ap (λ k. record { kept = 0; evaluations = l.tables.m; blanks = k }) (c.blanks_among-blanks.ensures ∙ blanks-over l.tables.n (worth l.tables (start_values l)) l.stored _ left.stored_after))
    left.numbers_after left.order_after left.stored_after left.reader_places_after left.reasons_after left.log_sizes_after
