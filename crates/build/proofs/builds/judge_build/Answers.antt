-- Each check stops the call or is passed, and then the rest decides; what the checks before it leave is what each later one relies on.
-- Assumes nothing.
use Prim.Native.Nat.{ℕ}
use native.Mathlib.Nat.{not-suc-le-zero}
use native.Mathlib.Omega.{arith}
use mathlib.Core.Bool.{Bool, true}
use mathlib.Core.List.{List}
use mathlib.Core.Path.{◌≡◌, refl, sym, ap, ◌∙◌}
use lib.IntN.{ℤ}
use Rattle.std.specs.Prelude.{Option, Result, Ok, Err}
use Rattle.integers.specs.Below.{if_below}
use Rattle.paper.specs.Lists.{first_fail}
use Rattle.paper.specs.Tables.{Tables}
use Rattle.paper.specs.Chains.{permitted}
use Rattle.paper.specs.Checks.{accepted, table_lines, Sound, by_lines}
use Rattle.paper.specs.Calls.{BuildLent, build_fits, start_values}
use Rattle.paper.proofs.Sizes.{sized_of}
use Rattle.paper.proofs.Accept.{tables-passed}
use Rattle.tables.specs.Answers.{answer_of}
use Rattle.tables.specs.Lent.{lent_bounds}
use Rattle.tables.specs.declared.Refusal.{Refusal}
use Rattle.tables.proofs.Answered.{accepted-is, refused-is, err-said, place-fits, below-fits, none_fails-none}
use Rattle.checks.specs.Moves.{move_of}
use Rattle.rows.specs.Put.{PairsFit}
use Rattle.order.proofs.Bare.{formed-of}
use Rattle.chains.specs.Links.{Kinded}
use Rattle.chains.proofs.Kinded.{kinded_of, formed-kinded, makers-kinded, permitted-kinded}
use Rattle.choices.proofs.Working.{closes-told, open-determined-least}
use Rattle.verdicts.specs.Lent.{no_record, lent_to_build}
use Rattle.build.proofs.BuildJudging.{grouped-past, judged-refused, Fitting, fitting, stops-1, stops-tables, stops-6, stops-7, ends-20, passes}
use Rattle.build.proofs.builds.judge_build.Goals as goal

pub returns-then-not-build_fits : goal.returns-then-not-build_fits
returns-then-not-build_fits c =
    let a = c.args in
    let l = lent_to_build no_record a.tables.now (lent_bounds a.bounds.now) a.starts.now a.numbers.now a.order.now a.stored.now a.index.now.starts.now a.index.now.places.now a.reasons.now a.log_sizes.now in
    judged-refused l _ _ (ap Err c.refused.ensures) (stops-1 l (sym c.build_fits.ensures ∙ c.if-not-build_fits.true))

-- ── past check 1 ──
pub table_checks-requires-clause-sized : goal.table_checks-requires-clause-sized
table_checks-requires-clause-sized c =
    let a = c.args in
    let l = lent_to_build no_record a.tables.now (lent_bounds a.bounds.now) a.starts.now a.numbers.now a.order.now a.stored.now a.index.now.starts.now a.index.now.places.now a.reasons.now a.log_sizes.now in
    (fitting l (sym c.build_fits.ensures ∙ c.if-not-build_fits.false)).held

pub table_checks-requires-clause-n_in_bounds : goal.table_checks-requires-clause-n_in_bounds
table_checks-requires-clause-n_in_bounds c =
    let a = c.args in
    let l = lent_to_build no_record a.tables.now (lent_bounds a.bounds.now) a.starts.now a.numbers.now a.order.now a.stored.now a.index.now.starts.now a.index.now.places.now a.reasons.now a.log_sizes.now in
    let fit = fitting l (sym c.build_fits.ensures ∙ c.if-not-build_fits.false) in
    (fit.lows, fit.highs, c.requires.scratch.makers fit.held.n-most)

pub returns-in_err-table_checks : goal.returns-in_err-table_checks
returns-in_err-table_checks c =
    let a = c.args in
    let l = lent_to_build no_record a.tables.now (lent_bounds a.bounds.now) a.starts.now a.numbers.now a.order.now a.stored.now a.index.now.starts.now a.index.now.places.now a.reasons.now a.log_sizes.now in
    judged-refused l _ _ (err-said _ _ c.from_residual.ensures.1)
    (stops-tables l (sym c.build_fits.ensures ∙ c.if-not-build_fits.false) _ _
    (refused-is tt _ (by_lines (table_lines l.tables l.bounds) accepted) (sym c.table_checks.ensures.verdict ∙ c.in_err-table_checks.was)))

-- ── past check 5 ──
record Passed (l : BuildLent) : Type 0 where
  pub fits : build_fits l ≡ true
  pub fit : Fitting l
  pub passed : by_lines (table_lines l.tables l.bounds) accepted ≡ accepted
  pub sound : Sound l.tables
  pub kinded : Kinded (kinded_of l.tables)

past_5 : (l : BuildLent) {r : Bool} {q : Result Unit Refusal} {u : Unit} → r ≡ build_fits l → r ≡ true → q ≡ answer_of tt (by_lines (table_lines l.tables l.bounds) accepted) → q ≡ Ok u → Passed l
past_5 l {r} {q} {u} e h verdict ok =
    let fits : build_fits l ≡ true = sym e ∙ h in
    let passed : by_lines (table_lines l.tables l.bounds) accepted ≡ accepted = accepted-is tt u _ (sym verdict ∙ ok) in
    let sound : Sound l.tables = (tables-passed l.tables l.bounds (sized_of l.tables (fitting l fits).held) accepted passed).0 in
    record {
      fits = fits;
      fit = fitting l fits;
      passed = passed;
      sound = sound;
      kinded = record { formed = formed-kinded l.tables (formed-of l.tables sound); kinds = (fitting l fits).held.kinds };
    }

-- the first variable that is not permitted, from its number
least : (t : Tables) {at : Option ℕ} → at ≡ if_below t.n (first_fail (permitted (kinded_of t)) t.n) → at ≡ if_below t.n (first_fail (permitted t) t.n)
least t e = e ∙ ap (λ f. if_below t.n (first_fail f t.n)) (permitted-kinded t)

pub number_all-requires-clause-kinded : goal.number_all-requires-clause-kinded
number_all-requires-clause-kinded c =
    let a = c.args in
    let l = lent_to_build no_record a.tables.now (lent_bounds a.bounds.now) a.starts.now a.numbers.now a.order.now a.stored.now a.index.now.starts.now a.index.now.places.now a.reasons.now a.log_sizes.now in
    let p = past_5 l c.build_fits.ensures c.if-not-build_fits.false c.table_checks.ensures.verdict c.in_ok-table_checks.was in
    p.kinded

pub number_all-requires-clause-makers : goal.number_all-requires-clause-makers
number_all-requires-clause-makers c =
    let a = c.args in
    let l = lent_to_build no_record a.tables.now (lent_bounds a.bounds.now) a.starts.now a.numbers.now a.order.now a.stored.now a.index.now.starts.now a.index.now.places.now a.reasons.now a.log_sizes.now in
    let p = past_5 l c.build_fits.ensures c.if-not-build_fits.false c.table_checks.ensures.verdict c.in_ok-table_checks.was in
    makers-kinded l.tables _ (c.table_checks.ensures.makers p.passed)

pub number_all-requires-clause-clean : goal.number_all-requires-clause-clean
number_all-requires-clause-clean c =
    let a = c.args in
    let l = lent_to_build no_record a.tables.now (lent_bounds a.bounds.now) a.starts.now a.numbers.now a.order.now a.stored.now a.index.now.starts.now a.index.now.places.now a.reasons.now a.log_sizes.now in
    let p = past_5 l c.build_fits.ensures c.if-not-build_fits.false c.table_checks.ensures.verdict c.in_ok-table_checks.was in
    c.requires.scratch.numbers p.fit.held.n-most

pub none_fails-requires : goal.none_fails-requires
none_fails-requires c =
    let a = c.args in
    let l = lent_to_build no_record a.tables.now (lent_bounds a.bounds.now) a.starts.now a.numbers.now a.order.now a.stored.now a.index.now.starts.now a.index.now.places.now a.reasons.now a.log_sizes.now in
    let p = past_5 l c.build_fits.ensures c.if-not-build_fits.false c.table_checks.ensures.verdict c.in_ok-table_checks.was in
    let few = p.fit.held.n-most in place-fits _ _ _ c.number_all.ensures.least (omega arith)

pub returns-in_err-none_fails : goal.returns-in_err-none_fails
returns-in_err-none_fails c =
    let a = c.args in
    let l = lent_to_build no_record a.tables.now (lent_bounds a.bounds.now) a.starts.now a.numbers.now a.order.now a.stored.now a.index.now.starts.now a.index.now.places.now a.reasons.now a.log_sizes.now in
    let p = past_5 l c.build_fits.ensures c.if-not-build_fits.false c.table_checks.ensures.verdict c.in_ok-table_checks.was in
    judged-refused l _ _ (err-said _ _ c.from_residual-in_err-none_fails.ensures.1)
    (stops-6 l p.fits p.passed _ (least l.tables c.number_all.ensures.least) _ (sym c.none_fails.ensures ∙ c.in_err-none_fails.was))

-- ── past check 6 ──
pub first_bad_value-requires : goal.first_bad_value-requires
first_bad_value-requires c =
    let a = c.args in
    let l = lent_to_build no_record a.tables.now (lent_bounds a.bounds.now) a.starts.now a.numbers.now a.order.now a.stored.now a.index.now.starts.now a.index.now.places.now a.reasons.now a.log_sizes.now in
    let p = past_5 l c.build_fits.ensures c.if-not-build_fits.false c.table_checks.ensures.verdict c.in_ok-table_checks.was in
    (record { makers = (c.table_checks.ensures.makers p.passed).long; lows = p.fit.lows; highs = p.fit.highs }, p.fit.starts)

pub none_fails-requires-2 : goal.none_fails-requires-2
none_fails-requires-2 c =
    let a = c.args in
    let l = lent_to_build no_record a.tables.now (lent_bounds a.bounds.now) a.starts.now a.numbers.now a.order.now a.stored.now a.index.now.starts.now a.index.now.places.now a.reasons.now a.log_sizes.now in
    let p = past_5 l c.build_fits.ensures c.if-not-build_fits.false c.table_checks.ensures.verdict c.in_ok-table_checks.was in
    let few = p.fit.held.n-most in below-fits _ _ c.first_bad_value.ensures.below (omega arith)

pub returns-in_err-none_fails-2 : goal.returns-in_err-none_fails-2
returns-in_err-none_fails-2 c =
    let a = c.args in
    let l = lent_to_build no_record a.tables.now (lent_bounds a.bounds.now) a.starts.now a.numbers.now a.order.now a.stored.now a.index.now.starts.now a.index.now.places.now a.reasons.now a.log_sizes.now in
    let p = past_5 l c.build_fits.ensures c.if-not-build_fits.false c.table_checks.ensures.verdict c.in_ok-table_checks.was in
    judged-refused l _ _ (err-said _ _ c.from_residual-in_err-none_fails-2.ensures.1)
    (stops-7 l p.fits p.passed _ (least l.tables c.number_all.ensures.least) _ (sym c.none_fails.ensures ∙ c.in_ok-none_fails.was)
    _ (c.first_bad_value.ensures.least.of l.tables refl (c.table_checks.ensures.makers p.passed)) _ (sym c.none_fails-2.ensures ∙ c.in_err-none_fails-2.was))

-- ── past check 7 ──
pub some_closes-requires-clause-kinded : goal.some_closes-requires-clause-kinded
some_closes-requires-clause-kinded c =
    let a = c.args in
    let l = lent_to_build no_record a.tables.now (lent_bounds a.bounds.now) a.starts.now a.numbers.now a.order.now a.stored.now a.index.now.starts.now a.index.now.places.now a.reasons.now a.log_sizes.now in
    let p = past_5 l c.build_fits.ensures c.if-not-build_fits.false c.table_checks.ensures.verdict c.in_ok-table_checks.was in
    p.kinded

pub some_closes-requires-clause-right : goal.some_closes-requires-clause-right
some_closes-requires-clause-right c =
    let a = c.args in
    let l = lent_to_build no_record a.tables.now (lent_bounds a.bounds.now) a.starts.now a.numbers.now a.order.now a.stored.now a.index.now.starts.now a.index.now.places.now a.reasons.now a.log_sizes.now in
    let p = past_5 l c.build_fits.ensures c.if-not-build_fits.false c.table_checks.ensures.verdict c.in_ok-table_checks.was in
    grouped-past (kinded_of l.tables) (none_fails-none 6 _ _ (sym c.none_fails.ensures ∙ c.in_ok-none_fails.was) ∙ c.number_all.ensures.least) c.number_all.ensures.numbered

-- where no chain closes every variable is determined
pub returns-then-not-some_closes : goal.returns-then-not-some_closes
returns-then-not-some_closes c =
    let a = c.args in
    let l = lent_to_build no_record a.tables.now (lent_bounds a.bounds.now) a.starts.now a.numbers.now a.order.now a.stored.now a.index.now.starts.now a.index.now.places.now a.reasons.now a.log_sizes.now in
    let p = past_5 l c.build_fits.ensures c.if-not-build_fits.false c.table_checks.ensures.verdict c.in_ok-table_checks.was in
    record {
      verdict = ap (answer_of tt) (sym (passes l p.fits p.passed _ (least l.tables c.number_all.ensures.least) _ (sym c.none_fails.ensures ∙ c.in_ok-none_fails.was)
          _ (c.first_bad_value.ensures.least.of l.tables refl (c.table_checks.ensures.makers p.passed)) _ (sym c.none_fails-2.ensures ∙ c.in_ok-none_fails-2.was)
          (open-determined-least l.tables p.sound (closes-told l.tables c.some_closes.ensures c.if-not-some_closes.true) (start_values l))));
      shared = λ _. c.number_all.ensures.numbered;
    }

-- ── some chain closes ──
-- a move of no pairs names no place
no_pairs : (n : ℕ) (vars : List ℕ) (values : List ℤ) → PairsFit n (move_of 0 vars values)
no_pairs n vars values = record { in-vars = omega arith; in-values = omega arith; low = λ i l. absurd (not-suc-le-zero l) }

pub first_stuck-requires : goal.first_stuck-requires
first_stuck-requires c =
    let a = c.args in
    let l = lent_to_build no_record a.tables.now (lent_bounds a.bounds.now) a.starts.now a.numbers.now a.order.now a.stored.now a.index.now.starts.now a.index.now.places.now a.reasons.now a.log_sizes.now in
    let p = past_5 l c.build_fits.ensures c.if-not-build_fits.false c.table_checks.ensures.verdict c.in_ok-table_checks.was in
    record { sound = p.sound; makers = c.table_checks.ensures.makers p.passed; there = p.fit.starts; fits = no_pairs _ _ _ }

pub none_fails-requires-3 : goal.none_fails-requires-3
none_fails-requires-3 c =
    let a = c.args in
    let l = lent_to_build no_record a.tables.now (lent_bounds a.bounds.now) a.starts.now a.numbers.now a.order.now a.stored.now a.index.now.starts.now a.index.now.places.now a.reasons.now a.log_sizes.now in
    let p = past_5 l c.build_fits.ensures c.if-not-build_fits.false c.table_checks.ensures.verdict c.in_ok-table_checks.was in
    let few = p.fit.held.n-most in place-fits _ _ _ c.first_stuck.ensures (omega arith)

pub returns : goal.returns
returns c =
    let a = c.args in
    let l = lent_to_build no_record a.tables.now (lent_bounds a.bounds.now) a.starts.now a.numbers.now a.order.now a.stored.now a.index.now.starts.now a.index.now.places.now a.reasons.now a.log_sizes.now in
    let p = past_5 l c.build_fits.ensures c.if-not-build_fits.false c.table_checks.ensures.verdict c.in_ok-table_checks.was in
    record {
      verdict = c.none_fails-3.ensures
          ∙ ends-20 l p.fits p.passed _ (least l.tables c.number_all.ensures.least) _ (sym c.none_fails.ensures ∙ c.in_ok-none_fails.was)
          _ (c.first_bad_value.ensures.least.of l.tables refl (c.table_checks.ensures.makers p.passed)) _ (sym c.none_fails-2.ensures ∙ c.in_ok-none_fails-2.was) _ c.first_stuck.ensures;
      shared = λ _. c.number_all.ensures.numbered;
    }
