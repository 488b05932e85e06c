-- What the code knows once the model is judged, and once a call is. Assumes nothing.
use Rattle.std.specs.Prelude.{◌≡◌, List, ℕ, Bool, true, false, Result, Err}
use Rattle.paper.specs.Tables.{Tables}
use Rattle.paper.specs.Checks.{Verdict, accepted, Sound, by_lines}
use Rattle.paper.specs.Chains.{closes}
use Rattle.paper.specs.Calls.{Model, model_fits, model_lines}
use Rattle.tables.specs.Answers.{answer_of, refusal}
use Rattle.tables.specs.Makers.{Makers}
use Rattle.tables.specs.declared.Refusal.{Refusal}
use Rattle.chains.specs.Links.{Grouped}

-- the answer is that of the model's checks, and if that is acceptance it says whether some chain closes, the row holds the makers, the tables are
-- sound, and the lent numbers are right
pub record ModelJudged (w : Model) (blanks : ℕ) (by : List ℕ) (r : Result Bool Refusal) : Type 0 where
  pub verdict : r ≡ answer_of (closes w.tables) (by_lines (model_lines w blanks) accepted)
  pub makers : by_lines (model_lines w blanks) accepted ≡ accepted → Makers w.tables by
  pub sound : by_lines (model_lines w blanks) accepted ≡ accepted → Sound w.tables
  pub grouped : by_lines (model_lines w blanks) accepted ≡ accepted → Grouped w.tables w.numbers

-- refused with 1 where its buffers are too short, and else judged by its checks
pub record OnceJudged (w : Model) (blanks : ℕ) (by : List ℕ) (r : Result Bool Refusal) : Type 0 where
  pub unfit : model_fits w ≡ false → r ≡ Err (refusal 1 0)
  pub fit : model_fits w ≡ true → ModelJudged w blanks by r

-- the answer is the call's verdict, and if that is acceptance it hands on to the filler whether some chain closes, and the makers
pub record CallJudged (verdict : Verdict) (t : Tables) (by : List ℕ) (r : Result Bool Refusal) : Type 0 where
  pub answer : r ≡ answer_of (closes t) verdict
  pub makers : verdict ≡ accepted → Makers t by
