-- From the test of what is lent to the call's equation. Assumes nothing.
use Prim.Native.Nat.{ℕ, ◌≤◌}
use mathlib.Core.Bool.{true, false, cond, ◌&&◌}
use mathlib.Core.List.{List}
use mathlib.Core.Path.{◌≡◌, sym, ap, ap₂, ◌∙◌}
use lib.Dec.{leb}
use lib.ListN.{length}
use borrow.Author.Tests.{leb-true}
use Rattle.paper.specs.Calls.{Session, Model}
use Rattle.paper.proofs.Lists.{and_left, and_right}
use Rattle.trials.specs.Batch.{Batch}
use Rattle.figures.specs.Figures.{outcomes, totals, tallies, fits, figures}
use Rattle.figures.specs.declared.Totals.{Totals}
use Rattle.std.specs.Prelude.{Ok, Err}
use Rattle.tables.specs.Answers.{refusal}

module _ (b : Batch) (row : List ℕ) where
  pub fits-known : fits b row ≡ true → (b.moves ≤ 1000) × (b.moves ≤ length b.pairs) × (22 ≤ length row)
  fits-known h =
      let few = leb b.moves 1000 in let each = leb b.moves (length b.pairs) in let both = and_left (few && each) (leb 22 (length row)) h in
      (leb-true _ _ (and_left few each both), leb-true _ _ (and_right few each both), leb-true _ _ (and_right (few && each) (leb 22 (length row)) h))

  module _ (s : Session) (w : Model) (asked : ℕ) where
    pub figures-refused : fits b row ≡ false → (Err (refusal 1 0), row) ≡ figures s w asked b row
    figures-refused h = ap (λ x. cond x (Ok (totals (outcomes s w asked b)), tallies (outcomes s w asked b) row) (Err (refusal 1 0), row)) (sym h)

    pub figures-accepted : fits b row ≡ true → (t : Totals) (left : List ℕ) → t ≡ totals (outcomes s w asked b) → left ≡ tallies (outcomes s w asked b) row
        → (Ok t, left) ≡ figures s w asked b row
    figures-accepted h t left p q =
        ap₂ (λ x y. (Ok x, y)) p q ∙ ap (λ x. cond x (Ok (totals (outcomes s w asked b)), tallies (outcomes s w asked b) row) (Err (refusal 1 0), row)) (sym h)
