-- Each check stops the chain or is passed, and then the rest of the chain decides. Assumes nothing.
use Prim.Native.Nat.{ℕ, ◌≤◌, ◌<◌}
use native.Mathlib.Omega.{arith}
use mathlib.Core.Bool.{Bool, true, false, cond}
use mathlib.Core.List.{List}
use mathlib.Core.Path.{◌≡◌, refl, sym, ap, ◌∙◌}
use lib.Dec.{ltb}
use lib.ListN.{length}
use borrow.Author.Tests.{ltb-true}
use Rattle.std.specs.Prelude.{Option, Some, None, IfSome, Ok, Err}
use Rattle.integers.specs.Below.{if_below}
use Rattle.paper.specs.Lists.{first_fail}
use Rattle.paper.specs.Checks.{Verdict, accepted, refused, check}
use Rattle.paper.proofs.Verdicts.{check-held, require-stops, require-next}
use Rattle.tables.specs.Answers.{unless_at, answer_of}
use Rattle.tables.proofs.Answered.{none_fails-stops, none_fails-passes}
use Rattle.frequencies.specs.Puts.{AllSayable}
use Rattle.frequencies.specs.Lent.{lent_windows, AllLent}
use Rattle.frequencies.specs.declared.Windows.{Windows}
use Rattle.tables.proofs.Answered.{err-said}
use Rattle.frequencies.proofs.Judging.{Lent, lent, file, verdict, rows_of, fit, double, times, headway, exact, name, room, from_five, from_six, from_seven, from_eight, from_nine, stops-1, past-1, sayable, no_room, has_room, all-counted, answers}
use Rattle.frequencies.proofs.write.judge.Goals as goal

-- a check over the windows that was passed
record Past (code count : ℕ) (good : ℕ → Bool) : Type 0 where
  pub at : Option ℕ
  pub is : at ≡ if_below count (first_fail good count)
  pub ok : unless_at code at ≡ Ok tt

past : {code count : ℕ} {good : ℕ → Bool} (at : Option ℕ) → at ≡ if_below count (first_fail good count) → unless_at code at ≡ Ok tt → Past code count good
past at is ok = record { at = at; is = is; ok = ok }

passes : {code count : ℕ} {good : ℕ → Bool} (next : Verdict) → Past code count good → check code count good next ≡ next
passes {code} {count} {good} next p = none_fails-passes code count good p.at p.is next tt p.ok

holds : {code count : ℕ} {good : ℕ → Bool} → Past code count good → (i : ℕ) → i < count → good i ≡ true
holds {code} {count} {good} p = check-held code count good accepted (passes accepted p)

-- a place below a number of 31 bits
small : (m : ℕ) (at : Option ℕ) (k : ℕ) → at ≡ if_below m k → m ≤ 2147483647 → IfSome at (λ place. place ≤ 2147483648)
small m at k e h = rw e (go (ltb k m) refl)
  where
    go : (b : Bool) → ltb k m ≡ b → IfSome (cond b (Some k) None) (λ place. place ≤ 2147483648)
    go true q = let low = ltb-true k m q in omega arith
    go false q = tt

module _ (b : Lent) (f : fit b ≡ true) (p₄ : Past 4 b.count (double b)) where
  past₄ : verdict b ≡ from_five b
  past₄ = past-1 b f ∙ passes (from_five b) p₄

  module _ (p₅ : Past 5 b.count (times b)) where
    past₅ : verdict b ≡ from_six b
    past₅ = past₄ ∙ passes (from_six b) p₅

    module _ (p₆ : Past 6 b.count (headway b)) where
      past₆ : verdict b ≡ from_seven b
      past₆ = past₅ ∙ passes (from_seven b) p₆

      module _ (p₇ : Past 7 b.count (exact b)) where
        past₇ : verdict b ≡ from_eight b
        past₇ = past₆ ∙ passes (from_eight b) p₇

        module _ (p₈ : Past 8 b.count (name b)) where
          past₈ : verdict b ≡ from_nine b
          past₈ = past₇ ∙ passes (from_nine b) p₈

          said : AllSayable b.count b.text b.windows
          said = sayable b (holds p₄) (holds p₅) (holds p₆) (holds p₈)

-- ── what is lent ──
abbrev lends : List ℕ → Windows → List ℕ → Lent
lends text w bytes = lent w.count text (lent_windows w) bytes

all_lent : (text : List ℕ) (w : Windows) (bytes : List ℕ) → fit (lends text w bytes) ≡ true → AllLent w
all_lent text w bytes f = let r = rows_of (lends text w bytes) f in record {
  places = r.places;
  lengths = r.lengths;
  doubled = r.doubled;
  starts = r.starts;
  ends = r.ends;
  headways = r.headways;
  exacts = r.exacts;
}

pub returns-then-not-rows_lent : goal.returns-then-not-rows_lent
returns-then-not-rows_lent c =
    let b = lends c.args.text.now c.args.windows.now c.args.bytes.now in
    answers b _ (refused 1 0) (stops-1 b (sym c.rows_lent.ensures ∙ c.if-not-rows_lent.true)) (ap Err c.refused.ensures)

pub first_single_quote-requires : goal.first_single_quote-requires
first_single_quote-requires c = all_lent c.args.text.now c.args.windows.now c.args.bytes.now (sym c.rows_lent.ensures ∙ c.if-not-rows_lent.false)

pub none_fails-requires : goal.none_fails-requires
none_fails-requires c =
    let b = lends c.args.text.now c.args.windows.now c.args.bytes.now in let f = sym c.rows_lent.ensures ∙ c.if-not-rows_lent.false in
    small b.count _ _ c.first_single_quote.ensures (rows_of b f).few

pub returns-in_err-none_fails : goal.returns-in_err-none_fails
returns-in_err-none_fails c =
    let b = lends c.args.text.now c.args.windows.now c.args.bytes.now in let f = sym c.rows_lent.ensures ∙ c.if-not-rows_lent.false in
    err-said _ _ c.from_residual.ensures.1 ∙ none_fails-stops 4 b.count (double b) _ c.first_single_quote.ensures (from_five b) (length (file b)) _ (sym c.none_fails.ensures ∙ c.in_err-none_fails.was)
    ∙ ap (answer_of (length (file b))) (sym (past-1 b f))

pub first_bad_time-requires : goal.first_bad_time-requires
first_bad_time-requires c = all_lent c.args.text.now c.args.windows.now c.args.bytes.now (sym c.rows_lent.ensures ∙ c.if-not-rows_lent.false)

pub none_fails-requires-2 : goal.none_fails-requires-2
none_fails-requires-2 c =
    let b = lends c.args.text.now c.args.windows.now c.args.bytes.now in let f = sym c.rows_lent.ensures ∙ c.if-not-rows_lent.false in
    small b.count _ _ c.first_bad_time.ensures (rows_of b f).few

pub returns-in_err-none_fails-2 : goal.returns-in_err-none_fails-2
returns-in_err-none_fails-2 c =
    let b = lends c.args.text.now c.args.windows.now c.args.bytes.now in let f = sym c.rows_lent.ensures ∙ c.if-not-rows_lent.false in
    let p₄ = past _ c.first_single_quote.ensures (sym c.none_fails.ensures ∙ c.in_ok-none_fails.was) in
    err-said _ _ c.from_residual-in_err-none_fails-2.ensures.1 ∙ none_fails-stops 5 b.count (times b) _ c.first_bad_time.ensures (from_six b) (length (file b)) _ (sym c.none_fails-2.ensures ∙ c.in_err-none_fails-2.was)
    ∙ ap (answer_of (length (file b))) (sym (past₄ b f p₄))

pub first_bad_headway-requires : goal.first_bad_headway-requires
first_bad_headway-requires c = all_lent c.args.text.now c.args.windows.now c.args.bytes.now (sym c.rows_lent.ensures ∙ c.if-not-rows_lent.false)

pub none_fails-requires-3 : goal.none_fails-requires-3
none_fails-requires-3 c =
    let b = lends c.args.text.now c.args.windows.now c.args.bytes.now in let f = sym c.rows_lent.ensures ∙ c.if-not-rows_lent.false in
    small b.count _ _ c.first_bad_headway.ensures (rows_of b f).few

pub returns-in_err-none_fails-3 : goal.returns-in_err-none_fails-3
returns-in_err-none_fails-3 c =
    let b = lends c.args.text.now c.args.windows.now c.args.bytes.now in let f = sym c.rows_lent.ensures ∙ c.if-not-rows_lent.false in
    let p₄ = past _ c.first_single_quote.ensures (sym c.none_fails.ensures ∙ c.in_ok-none_fails.was) in
    let p₅ = past _ c.first_bad_time.ensures (sym c.none_fails-2.ensures ∙ c.in_ok-none_fails-2.was) in
    err-said _ _ c.from_residual-in_err-none_fails-3.ensures.1 ∙ none_fails-stops 6 b.count (headway b) _ c.first_bad_headway.ensures (from_seven b) (length (file b)) _ (sym c.none_fails-3.ensures ∙ c.in_err-none_fails-3.was)
    ∙ ap (answer_of (length (file b))) (sym (past₅ b f p₄ p₅))

pub first_bad_exact-requires : goal.first_bad_exact-requires
first_bad_exact-requires c = all_lent c.args.text.now c.args.windows.now c.args.bytes.now (sym c.rows_lent.ensures ∙ c.if-not-rows_lent.false)

pub none_fails-requires-4 : goal.none_fails-requires-4
none_fails-requires-4 c =
    let b = lends c.args.text.now c.args.windows.now c.args.bytes.now in let f = sym c.rows_lent.ensures ∙ c.if-not-rows_lent.false in
    small b.count _ _ c.first_bad_exact.ensures (rows_of b f).few

pub returns-in_err-none_fails-4 : goal.returns-in_err-none_fails-4
returns-in_err-none_fails-4 c =
    let b = lends c.args.text.now c.args.windows.now c.args.bytes.now in let f = sym c.rows_lent.ensures ∙ c.if-not-rows_lent.false in
    let p₄ = past _ c.first_single_quote.ensures (sym c.none_fails.ensures ∙ c.in_ok-none_fails.was) in
    let p₅ = past _ c.first_bad_time.ensures (sym c.none_fails-2.ensures ∙ c.in_ok-none_fails-2.was) in
    let p₆ = past _ c.first_bad_headway.ensures (sym c.none_fails-3.ensures ∙ c.in_ok-none_fails-3.was) in
    err-said _ _ c.from_residual-in_err-none_fails-4.ensures.1 ∙ none_fails-stops 7 b.count (exact b) _ c.first_bad_exact.ensures (from_eight b) (length (file b)) _ (sym c.none_fails-4.ensures ∙ c.in_err-none_fails-4.was)
    ∙ ap (answer_of (length (file b))) (sym (past₆ b f p₄ p₅ p₆))

pub first_bad_name-requires : goal.first_bad_name-requires
first_bad_name-requires c = all_lent c.args.text.now c.args.windows.now c.args.bytes.now (sym c.rows_lent.ensures ∙ c.if-not-rows_lent.false)

pub none_fails-requires-5 : goal.none_fails-requires-5
none_fails-requires-5 c =
    let b = lends c.args.text.now c.args.windows.now c.args.bytes.now in let f = sym c.rows_lent.ensures ∙ c.if-not-rows_lent.false in
    small b.count _ _ c.first_bad_name.ensures (rows_of b f).few

pub returns-in_err-none_fails-5 : goal.returns-in_err-none_fails-5
returns-in_err-none_fails-5 c =
    let b = lends c.args.text.now c.args.windows.now c.args.bytes.now in let f = sym c.rows_lent.ensures ∙ c.if-not-rows_lent.false in
    let p₄ = past _ c.first_single_quote.ensures (sym c.none_fails.ensures ∙ c.in_ok-none_fails.was) in
    let p₅ = past _ c.first_bad_time.ensures (sym c.none_fails-2.ensures ∙ c.in_ok-none_fails-2.was) in
    let p₆ = past _ c.first_bad_headway.ensures (sym c.none_fails-3.ensures ∙ c.in_ok-none_fails-3.was) in
    let p₇ = past _ c.first_bad_exact.ensures (sym c.none_fails-4.ensures ∙ c.in_ok-none_fails-4.was) in
    err-said _ _ c.from_residual-in_err-none_fails-5.ensures.1 ∙ none_fails-stops 8 b.count (name b) _ c.first_bad_name.ensures (from_nine b) (length (file b)) _ (sym c.none_fails-5.ensures ∙ c.in_err-none_fails-5.was)
    ∙ ap (answer_of (length (file b))) (sym (past₇ b f p₄ p₅ p₆ p₇))

pub file_size-size-requires-clause-lent : goal.file_size-size-requires-clause-lent
file_size-size-requires-clause-lent c = all_lent c.args.text.now c.args.windows.now c.args.bytes.now (sym c.rows_lent.ensures ∙ c.if-not-rows_lent.false)

pub file_size-size-requires-clause-all_sayable : goal.file_size-size-requires-clause-all_sayable
file_size-size-requires-clause-all_sayable c =
    let b = lends c.args.text.now c.args.windows.now c.args.bytes.now in let f = sym c.rows_lent.ensures ∙ c.if-not-rows_lent.false in
    let p₄ = past _ c.first_single_quote.ensures (sym c.none_fails.ensures ∙ c.in_ok-none_fails.was) in
    let p₅ = past _ c.first_bad_time.ensures (sym c.none_fails-2.ensures ∙ c.in_ok-none_fails-2.was) in
    let p₆ = past _ c.first_bad_headway.ensures (sym c.none_fails-3.ensures ∙ c.in_ok-none_fails-3.was) in
    let p₇ = past _ c.first_bad_exact.ensures (sym c.none_fails-4.ensures ∙ c.in_ok-none_fails-4.was) in
    let p₈ = past _ c.first_bad_name.ensures (sym c.none_fails-5.ensures ∙ c.in_ok-none_fails-5.was) in
    said b f p₄ p₅ p₆ p₇ p₈

pub returns-then-min-size : goal.returns-then-min-size
returns-then-min-size c =
    let b = lends c.args.text.now c.args.windows.now c.args.bytes.now in let f = sym c.rows_lent.ensures ∙ c.if-not-rows_lent.false in
    let p₄ = past _ c.first_single_quote.ensures (sym c.none_fails.ensures ∙ c.in_ok-none_fails.was) in
    let p₅ = past _ c.first_bad_time.ensures (sym c.none_fails-2.ensures ∙ c.in_ok-none_fails-2.was) in
    let p₆ = past _ c.first_bad_headway.ensures (sym c.none_fails-3.ensures ∙ c.in_ok-none_fails-3.was) in
    let p₇ = past _ c.first_bad_exact.ensures (sym c.none_fails-4.ensures ∙ c.in_ok-none_fails-4.was) in
    let p₈ = past _ c.first_bad_name.ensures (sym c.none_fails-5.ensures ∙ c.in_ok-none_fails-5.was) in
    answers b _ (refused 9 0)
    (past₈ b f p₄ p₅ p₆ p₇ p₈ ∙ require-stops 9 0 (room b) accepted (no_room b _ _ c.file_size-size.ensures c.min.ensures c.if-min-size.true))
    (ap Err c.refused-then-min-size.ensures)

pub returns : goal.returns
returns c =
    let b = lends c.args.text.now c.args.windows.now c.args.bytes.now in let f = sym c.rows_lent.ensures ∙ c.if-not-rows_lent.false in
    let p₄ = past _ c.first_single_quote.ensures (sym c.none_fails.ensures ∙ c.in_ok-none_fails.was) in
    let p₅ = past _ c.first_bad_time.ensures (sym c.none_fails-2.ensures ∙ c.in_ok-none_fails-2.was) in
    let p₆ = past _ c.first_bad_headway.ensures (sym c.none_fails-3.ensures ∙ c.in_ok-none_fails-3.was) in
    let p₇ = past _ c.first_bad_exact.ensures (sym c.none_fails-4.ensures ∙ c.in_ok-none_fails-4.was) in
    let p₈ = past _ c.first_bad_name.ensures (sym c.none_fails-5.ensures ∙ c.in_ok-none_fails-5.was) in
    answers b _ accepted
    (past₈ b f p₄ p₅ p₆ p₇ p₈ ∙ require-next 9 0 (room b) accepted (has_room b _ _ c.file_size-size.ensures c.min.ensures c.if-min-size.false))
    (ap Ok (all-counted b _ _ c.file_size-size.ensures c.min.ensures c.if-min-size.false))
