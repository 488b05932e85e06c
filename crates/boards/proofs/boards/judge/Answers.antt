-- Each check stops the chain or is passed, and then the rest of the chain decides. Assumes nothing.
use Rattle.std.proofs.Common.{ℕ, true, length, ◌<◌, ◌≡◌, sym, ap, ◌∙◌, arith}
use borrow.Author.Tests.{le-leb, lt-leb}
use Rattle.std.specs.Prelude.{Option, Ok, Err}
use Rattle.integers.specs.Below.{if_below}
use Rattle.paper.specs.Lists.{first_fail}
use Rattle.paper.specs.Checks.{accepted, refused}
use Rattle.paper.proofs.Verdicts.{check-held, require-stops, require-next}
use Rattle.tables.specs.Answers.{answer_of, unless_at}
use Rattle.tables.proofs.Answered.{err-said, place-fits, none_fails-stops, none_fails-passes}
use Rattle.times.specs.Windows.{Board, list, windows_fit, numbers_good, apart, few_enough, room_given, board_verdict}
use Rattle.times.specs.Lent.{lent_windows}
use Rattle.boards.proofs.Counts.{too_many, not-many, all-counted}
use Rattle.boards.proofs.Judging.{lent_of, from_three, from_four, from_five, stops-1, past-1, answers}
use Rattle.boards.proofs.boards.judge.Goals as goal

module _ (b : Board) (fits : windows_fit b ≡ true) (bad : Option ℕ) (e₂ : bad ≡ if_below b.windows (first_fail (numbers_good b) b.windows))
    (ok₂ : unless_at 2 bad ≡ Ok tt) where
  past-2 : board_verdict b ≡ from_three b
  past-2 = past-1 b fits ∙ none_fails-passes 2 b.windows (numbers_good b) bad e₂ (from_three b) tt ok₂

  good : (i : ℕ) → i < b.windows → numbers_good b i ≡ true
  good = check-held 2 b.windows (numbers_good b) accepted (none_fails-passes 2 b.windows (numbers_good b) bad e₂ accepted tt ok₂)

  module _ (over : Option ℕ) (e₃ : over ≡ if_below b.windows (first_fail (apart b) b.windows)) (ok₃ : unless_at 3 over ≡ Ok tt) where
    past-3 : board_verdict b ≡ from_four b
    past-3 = past-2 ∙ none_fails-passes 3 b.windows (apart b) over e₃ (from_four b) tt ok₃

pub returns-then-not-windows_fit : goal.returns-then-not-windows_fit
returns-then-not-windows_fit c =
    let b = lent_windows c.args.windows.now c.args.row.now in
    answers b _ (refused 1 0) (stops-1 b (sym c.if-not-windows_fit.ensures)) (ap Err c.refused.ensures)

-- ── past check 1 ──
pub first_bad_number-requires : goal.first_bad_number-requires
first_bad_number-requires c =
    let l = lent_of (lent_windows c.args.windows.now c.args.row.now) (sym c.if-not-windows_fit.ensures) in
    (l.starts, l.ends, l.headways)

pub none_fails-requires : goal.none_fails-requires
none_fails-requires c =
    let b = lent_windows c.args.windows.now c.args.row.now in
    place-fits b.windows _ _ c.first_bad_number.ensures (omega (arith, (lent_of b (sym c.if-not-windows_fit.ensures)).few))

pub returns-in_err-none_fails : goal.returns-in_err-none_fails
returns-in_err-none_fails c =
    let b = lent_windows c.args.windows.now c.args.row.now in let fits = sym c.if-not-windows_fit.ensures in
    err-said _ _ c.from_residual.ensures.1
    ∙ none_fails-stops 2 b.windows (numbers_good b) _ c.first_bad_number.ensures (from_three b) (length (list b)) _ (sym c.none_fails.ensures ∙ c.in_err-none_fails.was)
    ∙ ap (answer_of (length (list b))) (sym (past-1 b fits))

-- ── past check 2 ──
pub first_overlapping-requires : goal.first_overlapping-requires
first_overlapping-requires c =
    let l = lent_of (lent_windows c.args.windows.now c.args.row.now) (sym c.if-not-windows_fit.ensures) in
    (l.starts, l.ends)

pub none_fails-requires-2 : goal.none_fails-requires-2
none_fails-requires-2 c =
    let b = lent_windows c.args.windows.now c.args.row.now in
    place-fits b.windows _ _ c.first_overlapping.ensures (omega (arith, (lent_of b (sym c.if-not-windows_fit.ensures)).few))

pub returns-in_err-none_fails-2 : goal.returns-in_err-none_fails-2
returns-in_err-none_fails-2 c =
    let b = lent_windows c.args.windows.now c.args.row.now in let fits = sym c.if-not-windows_fit.ensures in
    err-said _ _ c.from_residual-in_err-none_fails-2.ensures.1
    ∙ none_fails-stops 3 b.windows (apart b) _ c.first_overlapping.ensures (from_four b) (length (list b)) _ (sym c.none_fails-2.ensures ∙ c.in_err-none_fails-2.was)
    ∙ ap (answer_of (length (list b))) (sym (past-2 b fits _ c.first_bad_number.ensures (sym c.none_fails.ensures ∙ c.in_ok-none_fails.was)))

-- ── past check 3 ──
pub count_departures-length-requires-clause-windows_in_bounds : goal.count_departures-length-requires-clause-windows_in_bounds
count_departures-length-requires-clause-windows_in_bounds c =
    let l = lent_of (lent_windows c.args.windows.now c.args.row.now) (sym c.if-not-windows_fit.ensures) in
    (l.starts, l.ends, l.headways)

pub count_departures-length-requires-clause-numbers_good : goal.count_departures-length-requires-clause-numbers_good
count_departures-length-requires-clause-numbers_good c =
    let b = lent_windows c.args.windows.now c.args.row.now in
    record { good = good b (sym c.if-not-windows_fit.ensures) _ c.first_bad_number.ensures (sym c.none_fails.ensures ∙ c.in_ok-none_fails.was) }

pub returns-then-length-gt2000 : goal.returns-then-length-gt2000
returns-then-length-gt2000 c =
    let b = lent_windows c.args.windows.now c.args.row.now in let fits = sym c.if-not-windows_fit.ensures in
    let ok₂ = sym c.none_fails.ensures ∙ c.in_ok-none_fails.was in let ok₃ = sym c.none_fails-2.ensures ∙ c.in_ok-none_fails-2.was in
    let fine = good b fits _ c.first_bad_number.ensures ok₂ in
    answers b _ (refused 4 0)
    (past-3 b fits _ c.first_bad_number.ensures ok₂ _ c.first_overlapping.ensures ok₃
    ∙ require-stops 4 0 (few_enough b) (from_five b) (too_many b fine _ c.count_departures-length.ensures c.if-length-gt2000.true))
    (ap Err c.refused-then-length-gt2000.ensures)

-- ── past check 4 ──
pub returns-then-row-length : goal.returns-then-row-length
returns-then-row-length c =
    let b = lent_windows c.args.windows.now c.args.row.now in let fits = sym c.if-not-windows_fit.ensures in
    let ok₂ = sym c.none_fails.ensures ∙ c.in_ok-none_fails.was in let ok₃ = sym c.none_fails-2.ensures ∙ c.in_ok-none_fails-2.was in
    let fine = good b fits _ c.first_bad_number.ensures ok₂ in
    let long = all-counted b fine _ c.count_departures-length.ensures c.if-length-gt2000.false in
    answers b _ (refused 5 0)
    (past-3 b fits _ c.first_bad_number.ensures ok₂ _ c.first_overlapping.ensures ok₃
    ∙ require-next 4 0 (few_enough b) (from_five b) (not-many b fine _ c.count_departures-length.ensures c.if-length-gt2000.false)
    ∙ require-stops 5 0 (room_given b) accepted (lt-leb (length (list b)) (length b.row) (omega (arith, long, c.if-row-length.true))))
    (ap Err c.refused-then-row-length.ensures)

pub returns : goal.returns
returns c =
    let b = lent_windows c.args.windows.now c.args.row.now in let fits = sym c.if-not-windows_fit.ensures in
    let ok₂ = sym c.none_fails.ensures ∙ c.in_ok-none_fails.was in let ok₃ = sym c.none_fails-2.ensures ∙ c.in_ok-none_fails-2.was in
    let fine = good b fits _ c.first_bad_number.ensures ok₂ in
    let long = all-counted b fine _ c.count_departures-length.ensures c.if-length-gt2000.false in
    answers b _ accepted
    (past-3 b fits _ c.first_bad_number.ensures ok₂ _ c.first_overlapping.ensures ok₃
    ∙ require-next 4 0 (few_enough b) (from_five b) (not-many b fine _ c.count_departures-length.ensures c.if-length-gt2000.false)
    ∙ require-next 5 0 (room_given b) accepted (le-leb (length (list b)) (length b.row) (omega (arith, long, c.if-row-length.false))))
    (ap Ok long)
