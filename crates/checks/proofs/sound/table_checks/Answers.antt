-- The rows refuse, or their makers are filled in and the bounds and check 5 decide. Assumes nothing.
use mathlib.Core.Path.{sym, ap, ◌∙◌}
use Rattle.integers.specs.Below.{if_below}
use Rattle.paper.specs.Checks.{accepted, bounds_good, made_once, row_lines, by_lines}
use Rattle.tables.specs.Answers.{answer_of, unless_at}
use Rattle.tables.specs.Lent.{lent_tables, lent_bounds}
use Rattle.tables.proofs.Answered.{accepted-is, err-said, none_fails-is, none_fails-stops, none_fails-passes}
use Rattle.tables.proofs.Judged.{from_five, rows-make}
use Rattle.tables.proofs.Made.{makers-filled}
use Rattle.checks.proofs.SoundJudged.{rows-passed, bounds-least}
use Rattle.checks.proofs.sound.table_checks.Goals as goal

pub makers-requires-clause-all_below : goal.makers-requires-clause-all_below
makers-requires-clause-all_below c =
    let t = lent_tables c.args.tables.now in
    rows-make t (accepted-is tt _ (by_lines (row_lines t) accepted) (sym c.row_checks.ensures ∙ c.in_ok-row_checks.was))

pub returns-in_err-none_fails : goal.returns-in_err-none_fails
returns-in_err-none_fails c =
    let t = lent_tables c.args.tables.now in let bs = lent_bounds c.args.bounds.now in
    let past = accepted-is tt _ (by_lines (row_lines t) accepted) (sym c.row_checks.ensures ∙ c.in_ok-row_checks.was) in
    let filled = makers-filled t _ _ c.requires.n_in_bounds.2 c.makers.ensures in
    rows-passed t bs _ filled _ past (err-said _ _ c.from_residual-in_err-none_fails.ensures.1 ∙
    none_fails-stops 4 t.n (bounds_good t bs) _ (c.first_bad_bound.ensures ∙ ap (if_below t.n) (bounds-least t bs _ filled)) (from_five t accepted) tt _ (sym c.none_fails.ensures ∙ c.in_err-none_fails.was))

pub first_made_again-requires : goal.first_made_again-requires
first_made_again-requires c =
    let t = lent_tables c.args.tables.now in
    let past = accepted-is tt _ (by_lines (row_lines t) accepted) (sym c.row_checks.ensures ∙ c.in_ok-row_checks.was) in
    let filled = makers-filled t _ _ c.requires.n_in_bounds.2 c.makers.ensures in
    record { rows = c.requires.sized.makes; long = filled.long; below = (rows-make t past).at; at = filled.at }

pub returns : goal.returns
returns c =
    let t = lent_tables c.args.tables.now in let bs = lent_bounds c.args.bounds.now in
    let past = accepted-is tt _ (by_lines (row_lines t) accepted) (sym c.row_checks.ensures ∙ c.in_ok-row_checks.was) in
    let filled = makers-filled t _ _ c.requires.n_in_bounds.2 c.makers.ensures in
    let bounds = none_fails-passes 4 t.n (bounds_good t bs) _ (c.first_bad_bound.ensures ∙ ap (if_below t.n) (bounds-least t bs _ filled)) (from_five t accepted) _ (sym c.none_fails.ensures ∙ c.in_ok-none_fails.was) in
    rows-passed t bs _ filled _ past
    (c.none_fails-2.ensures ∙ ap (unless_at 5) c.first_made_again.ensures ∙ none_fails-is 5 t.m (made_once t) ∙ ap (answer_of tt) (sym bounds))
