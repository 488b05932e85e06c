-- Each check stops the chain or is passed, and then the rest decides; sound tables have makers, and over these checks 8 and 7 are made.
-- Assumes nothing.
use Rattle.std.proofs.Common.{◌≡◌, true, false, refl, sym, ap, ◌∙◌}
use Rattle.std.specs.Prelude.{Option, Some, None, is_some, cond, Ok, Err, Result}
use mathlib.Core.Bool.{Bool}
use mathlib.Core.List.{List}
use Prim.Native.Nat.{ℕ}
use Rattle.paper.specs.Chains.{groups_numbered, closes}
use Rattle.paper.specs.Checks.{accepted, table_lines, by_lines, Sound}
use Rattle.paper.specs.Calls.{Model, model_fits}
use Rattle.tables.specs.Answers.{answer_of}
use Rattle.tables.specs.Lent.{lent_model}
use Rattle.tables.specs.declared.Refusal.{Refusal}
use Rattle.tables.proofs.Answered.{accepted-is, refused-is, err-said}
use Rattle.paper.proofs.Sizes.{sized_of}
use Rattle.paper.proofs.Accept.{tables-passed}
use Rattle.order.proofs.Bare.{formed-of}
use Rattle.chains.proofs.Kinded.{kinded_of, formed-kinded, makers-kinded, eight-kinded, closes-kinded}
use Rattle.paper.proofs.Closes.{groups-permitted, groups-numbers}
use Rattle.index.proofs.Known.{entries-laid}
use Rattle.checks.specs.Judged.{TablesJudged}
use Rattle.verdicts.proofs.ModelJudging.{ModelFitting, model-fitting, model-refused, stops-tables, stops-8, stops-index, from-stored}
use Rattle.verdicts.proofs.models.model_checks.Goals as goal

-- check 8 as it is answered: nothing where it refuses, and otherwise whether some chain closes
told-none : (b x : Bool) → cond b (Some x) None ≡ None → b ≡ false
told-none true x e = cc
told-none false x e = refl

told-some : (b x y : Bool) → cond b (Some x) None ≡ Some y → b ≡ true
told-some true x y e = refl
told-some false x y e = cc

told-closed : (b x y : Bool) → cond b (Some x) None ≡ Some y → y ≡ x
told-closed true x y e = cc
told-closed false x y e = cc

-- ── past check 5 ──
module _ (w : Model) (blanks : ℕ) {by : List ℕ} {r : Result Unit Refusal} {u : Unit} (fits : model_fits w ≡ true) (judged : TablesJudged w.tables w.bounds by r) (ok : r ≡ Ok u) where
  fitting : ModelFitting w blanks
  fitting = model-fitting w blanks fits

  passed : by_lines (table_lines w.tables w.bounds) accepted ≡ accepted
  passed = accepted-is tt u (by_lines (table_lines w.tables w.bounds) accepted) (sym judged.verdict ∙ ok)

  sound : Sound w.tables
  sound = (tables-passed w.tables w.bounds (sized_of w.tables fitting.held) accepted passed).0

  -- check 8 as it comes out
  module _ {told : Option Bool} (said : told ≡ cond (groups_numbered (kinded_of w.tables) w.numbers w.order) (Some (closes (kinded_of w.tables))) None) where
    not-eight : told ≡ None → groups_numbered w.tables w.numbers w.order ≡ false
    not-eight e = sym (eight-kinded w.tables w.numbers w.order) ∙ told-none _ _ (sym said ∙ e)

    module _ {closed : Bool} (e : told ≡ Some closed) where
      eight : groups_numbered w.tables w.numbers w.order ≡ true
      eight = sym (eight-kinded w.tables w.numbers w.order) ∙ told-some _ _ _ (sym said ∙ e)

      closing : closed ≡ closes w.tables
      closing = told-closed _ _ _ (sym said ∙ e) ∙ closes-kinded w.tables

pub table_checks-requires-clause-sized : goal.table_checks-requires-clause-sized
table_checks-requires-clause-sized c = let w = lent_model c.args.model.now in (model-fitting w c.args.blanks c.requires.reasons_value).held

pub table_checks-requires-clause-n_in_bounds : goal.table_checks-requires-clause-n_in_bounds
table_checks-requires-clause-n_in_bounds c =
    let w = lent_model c.args.model.now in
    let z : ModelFitting w c.args.blanks = model-fitting w c.args.blanks c.requires.reasons_value in
    (z.lows, z.highs, c.requires.n_in_bounds)

pub returns-in_err-table_checks : goal.returns-in_err-table_checks
returns-in_err-table_checks c =
    let w = lent_model c.args.model.now in
    model-refused w c.args.blanks _ _ (err-said _ _ c.from_residual.ensures.1)
    (stops-tables w c.args.blanks _ _ (refused-is tt _ (by_lines (table_lines w.tables w.bounds) accepted) (sym c.table_checks.ensures.verdict ∙ c.in_err-table_checks.was)))

pub rows_right-requires-clause-laid : goal.rows_right-requires-clause-laid
rows_right-requires-clause-laid c =
    let w = lent_model c.args.model.now in entries-laid w.tables (sound w c.args.blanks c.requires.reasons_value c.table_checks.ensures c.in_ok-table_checks.was)

pub rows_right-requires-clause-formed : goal.rows_right-requires-clause-formed
rows_right-requires-clause-formed c =
    let w = lent_model c.args.model.now in formed-of w.tables (sound w c.args.blanks c.requires.reasons_value c.table_checks.ensures c.in_ok-table_checks.was)

pub rows_right-requires-clause-room : goal.rows_right-requires-clause-room
rows_right-requires-clause-room c = let z = model-fitting (lent_model c.args.model.now) c.args.blanks c.requires.reasons_value in (z.numbers, z.starts, z.places)

pub returns-in_default : goal.returns-in_default
returns-in_default c =
    let w = lent_model c.args.model.now in
    model-refused w c.args.blanks _ _ (ap Err c.refused.ensures)
    (stops-index w c.args.blanks (passed w c.args.blanks c.requires.reasons_value c.table_checks.ensures c.in_ok-table_checks.was)
    (sym c.rows_right.ensures.index ∙ ap is_some c.in_default.is))

pub shared_right-requires-clause-kinded : goal.shared_right-requires-clause-kinded
shared_right-requires-clause-kinded c =
    let w = lent_model c.args.model.now in
    record {
      formed = formed-kinded w.tables (formed-of w.tables (sound w c.args.blanks c.requires.reasons_value c.table_checks.ensures c.in_ok-table_checks.was));
      kinds = (model-fitting w c.args.blanks c.requires.reasons_value).held.kinds;
    }

pub shared_right-requires-clause-makers : goal.shared_right-requires-clause-makers
shared_right-requires-clause-makers c =
    let w = lent_model c.args.model.now in
    makers-kinded w.tables _ (c.table_checks.ensures.makers (passed w c.args.blanks c.requires.reasons_value c.table_checks.ensures c.in_ok-table_checks.was))

pub shared_right-requires-clause-long : goal.shared_right-requires-clause-long
shared_right-requires-clause-long c = let z = model-fitting (lent_model c.args.model.now) c.args.blanks c.requires.reasons_value in (z.numbers, z.order)

pub returns-in_default-shared_right : goal.returns-in_default-shared_right
returns-in_default-shared_right c =
    let w = lent_model c.args.model.now in let fits = c.requires.reasons_value in let ok = c.in_ok-table_checks.was in
    model-refused w c.args.blanks _ _ (ap Err c.refused-in_default-shared_right.ensures)
    (stops-8 w c.args.blanks (passed w c.args.blanks fits c.table_checks.ensures ok)
    (not-eight w c.args.blanks fits c.table_checks.ensures ok c.shared_right.ensures c.in_default-shared_right.is))

pub stored_checks-requires : goal.stored_checks-requires
stored_checks-requires c =
    let w = lent_model c.args.model.now in
    let z : ModelFitting w c.args.blanks = model-fitting w c.args.blanks c.requires.reasons_value in
    let made = c.table_checks.ensures.makers (passed w c.args.blanks c.requires.reasons_value c.table_checks.ensures c.in_ok-table_checks.was) in
    (record { makers = made.long; lows = z.lows; highs = z.highs }, z.stored, z.held.n-most)

pub returns-in_err-stored_checks : goal.returns-in_err-stored_checks
returns-in_err-stored_checks c =
    let w = lent_model c.args.model.now in let fits = c.requires.reasons_value in let ok = c.in_ok-table_checks.was in
    let past = passed w c.args.blanks fits c.table_checks.ensures ok in
    model-refused w c.args.blanks _ _ (err-said _ _ c.from_residual-in_err-stored_checks.ensures.1)
    (from-stored w c.args.blanks past (eight w c.args.blanks fits c.table_checks.ensures ok c.shared_right.ensures c.in-Some-shared_right.is)
    (sym c.rows_right.ensures.index ∙ ap is_some c.in-Some.is)
    ∙ refused-is tt _ _ (sym (c.stored_checks.ensures.of w.tables refl (c.table_checks.ensures.makers past)) ∙ c.in_err-stored_checks.was))

pub returns : goal.returns
returns c =
    let w = lent_model c.args.model.now in let fits = c.requires.reasons_value in let ok = c.in_ok-table_checks.was in
    let past = passed w c.args.blanks fits c.table_checks.ensures ok in
    let held = eight w c.args.blanks fits c.table_checks.ensures ok c.shared_right.ensures c.in-Some-shared_right.is in
    record {
      verdict =
          ap Ok (closing w c.args.blanks fits c.table_checks.ensures ok c.shared_right.ensures c.in-Some-shared_right.is)
          ∙ ap (answer_of (closes w.tables)) (sym (from-stored w c.args.blanks past held (sym c.rows_right.ensures.index ∙ ap is_some c.in-Some.is)
          ∙ accepted-is tt _ _ (sym (c.stored_checks.ensures.of w.tables refl (c.table_checks.ensures.makers past)) ∙ c.in_ok-stored_checks.was)));
      makers = λ _. c.table_checks.ensures.makers past;
      sound = λ _. sound w c.args.blanks fits c.table_checks.ensures ok;
      grouped = λ _. record {
        permitted = groups-permitted w.tables w.numbers w.order held;
        shared = record { long = (fitting w c.args.blanks fits c.table_checks.ensures ok).numbers; at = groups-numbers w.tables w.numbers w.order held };
      };
    }
