-- How the checks of the model come out, one by one. Assumes nothing.
use Prim.Native.Nat.{ℕ, suc, ◌≤◌}
use mathlib.Core.Bool.{Bool, true, false}
use mathlib.Core.Path.{◌≡◌, refl, ap, sym, ◌∙◌}
use mathlib.Core.List.{List}
use lib.ListN.{length}
use Rattle.std.specs.Prelude.{Result, Err}
use borrow.Author.Tests.{leb-true}
use Rattle.paper.proofs.Lists.{and_left, and_right, each}
use Rattle.paper.specs.Tables.{Tables}
use Rattle.paper.specs.Checks.{Verdict, accepted, refused, require, sized, table_lines, indexed, by_lines}
use Rattle.paper.specs.Chains.{groups_numbered, closes}
use Rattle.paper.specs.Calls.{Model, model_fits, model_lines}
use Rattle.paper.proofs.Verdicts.{and_then, Chain, lines_then, refused-not, require-stops, require-next}
use Rattle.paper.proofs.Sizes.{Sized, sized-facts}
use Rattle.tables.specs.Answers.{answer_of}
use Rattle.tables.specs.declared.Refusal.{Refusal}
use Rattle.checks.specs.Allowed.{stored_checks}
use Rattle.verdicts.proofs.Lengths.{index-long, bounds-long}
use Rattle.verdicts.specs.ModelJudged.{ModelJudged}

-- ── checks 2 to 5, 8, 19, 7 ──
module _ (w : Model) (blanks : ℕ) where
  abbrev t : Tables
  t = w.tables

  abbrev eight : Bool
  eight = groups_numbered t w.numbers w.order

  abbrev eight_too : Bool
  eight_too = indexed t w.index

  abbrev from_eight : Verdict → Verdict
  from_eight next = require 8 0 eight (require 8 0 eight_too (stored_checks blanks w.bounds w.stored t next))

  -- the buffers, as check 1 leaves them
  pub record ModelFitting : Type 0 where
    pub held : Sized t
    pub numbers : t.n ≤ length w.numbers
    pub order : t.m ≤ length w.order
    pub stored : t.n ≤ length w.stored
    pub starts : suc t.n ≤ length w.index.starts
    pub places : t.e ≤ length w.index.places
    pub lows : t.n ≤ length w.bounds.lows
    pub highs : t.n ≤ length w.bounds.highs

  pub model-fitting : model_fits w ≡ true → ModelFitting
  model-fitting h =
      let long = each _ (and_right (sized t) _ h) in
      record {
        held = sized-facts t (and_left (sized t) _ h);
        numbers = leb-true _ _ long.0;
        order = leb-true _ _ long.1.0;
        stored = leb-true _ _ long.1.1.0;
        starts = (index-long t w.index long.1.1.1.0).0;
        places = (index-long t w.index long.1.1.1.0).1;
        lows = (bounds-long t w.bounds long.1.1.1.1.0).0;
        highs = (bounds-long t w.bounds long.1.1.1.1.0).1;
      }

  pub model-refused : (by : List ℕ) {z : Result Bool Refusal} (f : Refusal) → z ≡ Err f → by_lines (model_lines w blanks) accepted ≡ refused f.number f.place → ModelJudged w blanks by z
  model-refused by f e h = record {
    verdict = e ∙ ap (answer_of (closes t)) (sym h);
    makers = λ a. refused-not (sym h ∙ a);
    sound = λ a. refused-not (sym h ∙ a);
    grouped = λ a. refused-not (sym h ∙ a);
  }

  -- 2 to 5
  pub stops-tables : (number place : ℕ) → by_lines (table_lines t w.bounds) accepted ≡ refused number place → by_lines (model_lines w blanks) accepted ≡ refused number place
  stops-tables number place h = lines_then (table_lines t w.bounds) (from_eight accepted) ∙ ap (λ v. and_then v (from_eight accepted)) h

  module _ (passed : by_lines (table_lines t w.bounds) accepted ≡ accepted) where
    past-tables : by_lines (model_lines w blanks) accepted ≡ from_eight accepted
    past-tables = lines_then (table_lines t w.bounds) (from_eight accepted) ∙ ap (λ v. and_then v (from_eight accepted)) passed

    pub stops-8 : eight ≡ false → by_lines (model_lines w blanks) accepted ≡ refused 8 0
    stops-8 h = past-tables ∙ require-stops 8 0 eight _ h

    -- whatever the numbers and the order are
    pub stops-index : eight_too ≡ false → by_lines (model_lines w blanks) accepted ≡ refused 8 0
    stops-index h = go eight refl
      where
        go : (b : Bool) → eight ≡ b → by_lines (model_lines w blanks) accepted ≡ refused 8 0
        go true past₈ = past-tables ∙ require-next 8 0 eight _ past₈ ∙ require-stops 8 0 eight_too _ h
        go false not₈ = stops-8 not₈

    -- 19 and 7 decide
    pub from-stored : eight ≡ true → eight_too ≡ true → by_lines (model_lines w blanks) accepted ≡ stored_checks blanks w.bounds w.stored t accepted
    from-stored past₈ indexed₈ = past-tables ∙ require-next 8 0 eight _ past₈ ∙ require-next 8 0 eight_too _ indexed₈

  pub model-then : Chain (by_lines (model_lines w blanks))
  model-then = lines_then (model_lines w blanks)
