-- From the test of what is lent to the call's equation. Assumes nothing.
use Prim.Native.Nat.{ℕ, ◌*◌, ◌≤◌}
use native.Mathlib.Nat.{mul-le-mul}
use mathlib.Core.Bool.{Bool, true, false, cond, ◌&&◌}
use mathlib.Core.List.{List, [], ◌∷◌, map}
use mathlib.Core.Path.{◌≡◌, sym, ap, ap₂, ◌∙◌}
use lib.Dec.{leb}
use lib.ListN.{length}
use borrow.Author.Tests.{leb-true}
use Rattle.paper.specs.Lists.{total}
use Rattle.paper.specs.Calls.{Session, Accepted, Refused, Model, TrialLeft}
use Rattle.paper.proofs.Lists.{and_left, and_right}
use Rattle.tables.proofs.Tests.{joined, in_two}
use Rattle.std.specs.Prelude.{Result, Err}
use Rattle.tables.specs.declared.Refusal as code
use Rattle.tables.specs.Answers.{refusal}
use Rattle.records.specs.Left.{answer_in}
use Rattle.trials.specs.Batch.{Batch, moves_of}
use Rattle.trials.specs.Trials.{Question, Rows, tries, evaluations_given, filled, trials_fit, trials}

-- ── the test, in two parts: the second multiplies, and the first bounds the product ──
module _ (b : Batch) (q : Question) (rows : Rows) where
  abbrev pub few : Bool
  few = joined (leb b.moves 1000) (leb b.moves (length b.pairs) ∷ leb q.asked 32 ∷ leb q.asked (length q.vars) ∷ [])

  abbrev pub roomy : Bool
  roomy =
      joined (leb b.moves (length rows.numbers)) (
      leb b.moves (length rows.places) ∷ leb b.moves (length rows.evaluations) ∷ leb (b.moves * q.asked) (length rows.results) ∷ leb (b.moves * q.asked) (length rows.why) ∷ [])

  two : trials_fit b q rows ≡ (few && roomy)
  two =
      in_two (leb b.moves 1000) (leb b.moves (length b.pairs) ∷ leb q.asked 32 ∷ leb q.asked (length q.vars) ∷ []) (leb b.moves (length rows.numbers)) (
      leb b.moves (length rows.places) ∷ leb b.moves (length rows.evaluations) ∷ leb (b.moves * q.asked) (length rows.results) ∷ leb (b.moves * q.asked) (length rows.why) ∷ [])

  pub fit-few : few ≡ false → false ≡ trials_fit b q rows
  fit-few h = sym (two ∙ ap (◌&& roomy) h)

  pub fit-roomy : few ≡ true → roomy ≡ trials_fit b q rows
  fit-roomy h = sym (two ∙ ap (◌&& roomy) h)

  pub few-low : few ≡ true → b.moves * q.asked ≤ 1000 * 32
  few-low h =
      let n = leb b.moves 1000 in let p = leb b.moves (length b.pairs) in let a = leb q.asked 32 in let v = leb q.asked (length q.vars) in
      let three = and_left ((n && p) && a) v h in
      mul-le-mul (leb-true _ _ (and_left n p (and_left (n && p) a three))) (leb-true _ _ (and_right (n && p) a three))

  -- ── the call ──
  module _ (s : Session) (w : Model) where
    abbrev all : List TrialLeft
    all = tries s w q (moves_of b) rows.results rows.why

    pub trials-refused : trials_fit b q rows ≡ false → (r : Result ℕ code.Refusal) → r ≡ Err (refusal 1 0) → (answer_in r, rows) ≡ trials s w b q rows
    trials-refused h r e = ap (λ a. (answer_in a, rows)) e ∙ ap (λ x. cond x (Accepted (total (map evaluations_given all)), filled b.moves q.asked all rows) (Refused 1 0, rows)) (sym h)

    pub trials-accepted : trials_fit b q rows ≡ true → (count : ℕ) (left : Rows) → count ≡ total (map evaluations_given all) → left ≡ filled b.moves q.asked all rows
        → (Accepted count, left) ≡ trials s w b q rows
    trials-accepted h count left p r =
        ap₂ (λ x y. (Accepted x, y)) p r ∙ ap (λ x. cond x (Accepted (total (map evaluations_given all)), filled b.moves q.asked all rows) (Refused 1 0, rows)) (sym h)
