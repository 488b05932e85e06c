-- Other scratch rows of the same lengths: what a trial answers, its results and its reasons stay, since of these rows only the lengths are looked at. Assumes nothing.
use Prim.Native.Nat.{ℕ}
use mathlib.Core.List.{List, [], ◌∷◌, ◌++◌}
use mathlib.Core.Path.{◌≡◌, sym, ap, ap₂, ◌∙◌}
use lib.Dec.{leb, ltb}
use lib.IntN.{ℤ, pos}
use lib.ListN.{length, take, drop, length-replicate}
use Rattle.paper.specs.Lists.{every, between, nat}
use Rattle.paper.specs.Checks.{Verdict, accepted, require, places, whole, by_lines, Move, move_fits, move_lines, fresh_lines}
use Rattle.paper.specs.Calls.{Session, Model, stored_values, model_fits, TrialLent, TrialLeft, model_lines, trial_verdict, trial_leaves, trial}
use Rattle.std.specs.Prelude.{Result}
use Rattle.tables.specs.declared.Refusal as code
use Rattle.records.specs.declared.Done.{Done}
use Rattle.records.specs.Left.{left_by_trial}
use Rattle.trials.specs.Trials.{Question, as_trial, try_one, Given, GivenAt}

module _ (s : Session) (w : Model) (c : TrialLent) (row : List ℤ) (flags : List ℕ) where
  abbrev pub rows_as : TrialLent
  rows_as = record { move = c.move; asked = c.asked; asked_vars = c.asked_vars; route = c.route; results = c.results; trial = row; flags = flags; why = c.why }

  -- the verdict, by the lengths of both rows
  abbrev by_lengths : ℕ → ℕ → Verdict
  by_lengths a b = let n = w.tables.n in
      require 1 0 (every (
      model_fits w ∷ move_fits c.move ∷ leb c.asked 32 ∷ leb c.asked (length c.asked_vars)
      ∷ leb c.asked (length c.results) ∷ leb n a ∷ leb n b ∷ leb c.asked (length c.why) ∷ []))
      (by_lines (model_lines w s.blanks ++ (whole 9 0 (between 1 c.route 3) ∷ []) ++ move_lines c.move w.tables w.bounds
      ++ (places 13 c.asked (λ i. ltb (nat c.asked_vars i) n) ∷ []) ++ fresh_lines c.move w.tables (stored_values w)) accepted)

  module _ (p : length row ≡ length c.trial) (q : length flags ≡ length c.flags) where
    verdict-stays : trial_verdict s w rows_as ≡ trial_verdict s w c
    unfolding trial_verdict
    verdict-stays = ap₂ by_lengths p q

    pub any-rows : ((trial s w rows_as).answer ≡ (trial s w c).answer) × ((trial s w rows_as).results ≡ (trial s w c).results) × ((trial s w rows_as).why ≡ (trial s w c).why)
    unfolding trial
    any-rows = (ap (λ v. (trial_leaves w c s v).answer) verdict-stays, ap (λ v. (trial_leaves w c s v).results) verdict-stays, ap (λ v. (trial_leaves w c s v).why) verdict-stays)

-- what is left over rows of 4096 places is what the move is given
pub given_by : (s : Session) (w : Model) (q : Question) (mv : Move) (results : List ℤ) (why : List ℕ) (row : List ℤ) (flags : List ℕ) → length row ≡ 4096 → length flags ≡ 4096
    → (done : Done) (results' row' : List ℤ) (flags' why' : List ℕ) → left_by_trial done results' row' flags' why' ≡ trial s w (rows_as s w (as_trial q mv results why) row flags)
    → Given s w q mv results why done.answer results' why'
given_by s w q mv results why row flags long wide done results' row' flags' why' e =
    let same = any-rows s w (as_trial q mv results why) row flags (long ∙ sym (length-replicate {A = ℤ} 4096 (pos 0))) (wide ∙ sym (length-replicate {A = ℕ} 4096 0)) in
    record {
      answer = ap (λ (x : TrialLeft). x.answer) e ∙ same.0;
      results-are = ap (λ (x : TrialLeft). x.results) e ∙ same.1;
      why-is = ap (λ (x : TrialLeft). x.why) e ∙ same.2;
    }

-- the same of the parts of two rows, which come back to their places
pub given-at : (s : Session) (w : Model) (q : Question) (mv : Move) (at : ℕ) (results : List ℤ) (why : List ℕ) (r : Result ℕ code.Refusal) (k : ℕ) → k ≡ q.asked → (ys : List ℤ) (zs : List ℕ)
    → Given s w q mv (take k (drop at results)) (take k (drop at why)) r ys zs
    → GivenAt s w q mv at results why r (take at results ++ (ys ++ drop k (drop at results))) (take at why ++ (zs ++ drop k (drop at why)))
given-at s w q mv at results why r k e ys zs g = record {
  answer = g.answer ∙ ap (λ j. (try_one s w q mv (take j (drop at results)) (take j (drop at why))).answer) e;
  results-are = ap (λ y. take at results ++ (y ++ drop k (drop at results))) g.results-are
      ∙ ap (λ j. take at results ++ ((try_one s w q mv (take j (drop at results)) (take j (drop at why))).results ++ drop j (drop at results))) e;
  why-is = ap (λ y. take at why ++ (y ++ drop k (drop at why))) g.why-is
      ∙ ap (λ j. take at why ++ ((try_one s w q mv (take j (drop at results)) (take j (drop at why))).why ++ drop j (drop at why))) e;
}
