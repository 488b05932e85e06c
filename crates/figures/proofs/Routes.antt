-- The routes, and the row of reasons: the checks look at the route only where it is none of the three, and at the row's length alone. Assumes nothing.
use Prim.Native.Nat.{ℕ, ◌≤◌}
use mathlib.Core.Bool.{Bool, true, ◌&&◌}
use mathlib.Core.List.{List, [], ◌∷◌}
use mathlib.Core.Path.{◌≡◌, refl, sym, ap, ◌∙◌}
use lib.Dec.{leb, ltb}
use lib.ListN.{length}
use borrow.Author.Tests.{le-leb}
use Rattle.paper.specs.Lists.{every, between, nat}
use Rattle.paper.specs.Checks.{Verdict, accepted, refused, require, check, sized, Move, move_fits, fresh_lines, by_lines, move_lines}
use Rattle.paper.specs.Calls.{Session, number_of, answered, Model, stored_values, TrialLent, TrialLeft, index_fits, bounds_fit, model_lines, trial_fits, trial_verdict, trial_leaves, trial}
use Rattle.paper.proofs.Outcomes.{trial-judged}
use Rattle.figures.specs.Outcomes.{tried_once, as_one_trial}
use Rattle.figures.specs.Laws.{SameNumber}

-- ── any trial ──
-- its number is the verdict's
abbrev verdict_number : Verdict → ℕ
verdict_number v = number_of (answered v 0)

number_is : (s : Session) (w : Model) (c : TrialLent) → number_of (trial s w c).answer ≡ verdict_number (trial_verdict s w c)
number_is s w c = go (trial_verdict s w c) refl
  where
    go : (v : Verdict) → trial_verdict s w c ≡ v → number_of (trial s w c).answer ≡ verdict_number (trial_verdict s w c)
    go accepted e = ap (λ (x : TrialLeft). number_of x.answer) ((trial-judged s w c).is accepted e) ∙ ap verdict_number (sym e)
    go (refused number place) e = ap (λ (x : TrialLeft). number_of x.answer) ((trial-judged s w c).is (refused number place) e) ∙ ap verdict_number (sym e)

-- ── of one move ──
verdict-alike : (s : Session) (w : Model) (asked : ℕ) (mv : Move) (r : ℕ) → between 1 r 3 ≡ true → trial_verdict s w (as_one_trial s w asked r mv) ≡ trial_verdict s w (as_one_trial s w asked 1 mv)
unfolding trial_verdict
verdict-alike s w asked mv r e =
    ap (λ b. require 1 0 (trial_fits w (as_one_trial s w asked 1 mv)) (by_lines (model_lines w s.blanks) (require 9 0 b
    (by_lines (move_lines mv w.tables w.bounds) (check 13 1 (λ i. ltb (nat (asked ∷ []) i) w.tables.n) (by_lines (fresh_lines mv w.tables (stored_values w)) accepted)))))) e

pub same_number : SameNumber
unfolding tried_once
same_number s w asked mv r e =
    number_is s w (as_one_trial s w asked r mv) ∙ ap verdict_number (verdict-alike s w asked mv r e) ∙ sym (number_is s w (as_one_trial s w asked 1 mv))

-- ── another row of reasons, long enough: the answer and the results stay ──
abbrev pub reasons_as : Model → List ℕ → Model
reasons_as w row = record { tables = w.tables; bounds = w.bounds; numbers = w.numbers; order = w.order; stored = w.stored; index = w.index; reasons = row }

module _ (s : Session) (w : Model) (c : TrialLent) (row : List ℕ) (long : w.tables.n ≤ length row) (was : w.tables.n ≤ length w.reasons) where
  -- the verdict, by whether there is room for the reasons
  abbrev by_room : Bool → Verdict
  by_room room = let t = w.tables in let n = t.n in
      require 1 0 (every (
      (sized t && every (leb n (length w.numbers) ∷ leb t.m (length w.order) ∷ leb n (length w.stored) ∷ index_fits t w.index ∷ bounds_fit t w.bounds ∷ room ∷ []))
      ∷ move_fits c.move ∷ leb c.asked 32 ∷ leb c.asked (length c.asked_vars)
      ∷ leb c.asked (length c.results) ∷ leb n (length c.trial) ∷ leb n (length c.flags) ∷ leb c.asked (length c.why) ∷ []))
      (by_lines (model_lines w s.blanks) (require 9 0 (between 1 c.route 3)
      (by_lines (move_lines c.move w.tables w.bounds) (check 13 c.asked (λ i. ltb (nat c.asked_vars i) n) (by_lines (fresh_lines c.move t (stored_values w)) accepted)))))

  verdict-stays : trial_verdict s (reasons_as w row) c ≡ trial_verdict s w c
  unfolding trial_verdict
  verdict-stays = ap by_room (le-leb w.tables.n (length row) long ∙ sym (le-leb w.tables.n (length w.reasons) was))

  pub any-reasons : ((trial s (reasons_as w row) c).answer ≡ (trial s w c).answer) × ((trial s (reasons_as w row) c).results ≡ (trial s w c).results)
  unfolding trial
  any-reasons = (ap (λ v. (trial_leaves w c s v).answer) verdict-stays, ap (λ v. (trial_leaves w c s v).results) verdict-stays)
