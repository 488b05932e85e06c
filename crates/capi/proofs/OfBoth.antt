-- What `lukhandro_merge` answers by the numbers of both outcomes: the first that is refused, or what `merge` answers of their figures. Assumes nothing.
use Prim.Native.Nat.{ℕ}
use mathlib.Core.Bool.{false, cond}
use mathlib.Core.List.{List}
use mathlib.Core.Path.{◌≡◌, ap, sym, ◌∙◌}
use lib.Dec.{eqb}
use Rattle.figures.specs.declared.Totals.{Totals}
use Rattle.std.specs.Prelude.{Result}
use Rattle.tables.specs.declared.Refusal.{Refusal}
use Rattle.merging.specs.Merge.{merge}
use Rattle.capi.specs.declared.FiguresOutcome.{FiguresOutcome}
use Rattle.capi.specs.Products.{figures_in_numbers, figures_out, totals_in, refused_figures, merged_out}

module _ (a b : FiguresOutcome) (xs ys row : List ℕ) where
  -- both have figures
  abbrev both : FiguresOutcome × List ℕ
  both = figures_out (merge (totals_in a) (totals_in b) xs ys row)

  abbrev second : FiguresOutcome × List ℕ
  second = cond (eqb b.number 0) both (refused_figures b.number b.place, row)

  pub first-refused : {r : FiguresOutcome} → eqb a.number 0 ≡ false → r ≡ refused_figures a.number a.place → (r, row) ≡ merged_out a b xs ys row
  unfolding merged_out
  first-refused not0 told = ap (λ (x : FiguresOutcome). (x, row)) told ∙ sym (ap (λ t. cond t second (refused_figures a.number a.place, row)) not0)

  -- the first has figures
  open-first : a.number ≡ 0 → merged_out a b xs ys row ≡ second
  unfolding merged_out
  open-first is = ap (λ k. cond (eqb k 0) second (refused_figures a.number a.place, row)) is

  pub second-refused : {r : FiguresOutcome} → a.number ≡ 0 → eqb b.number 0 ≡ false → r ≡ refused_figures b.number b.place → (r, row) ≡ merged_out a b xs ys row
  second-refused is not0 told = ap (λ (x : FiguresOutcome). (x, row)) told ∙ sym (ap (λ t. cond t both (refused_figures b.number b.place, row)) not0) ∙ sym (open-first is)

  pub both-merged : {r : FiguresOutcome} {told : Result Totals Refusal} {row' : List ℕ} {t t' : Totals} → a.number ≡ 0 → b.number ≡ 0
      → r ≡ figures_in_numbers told → (told, row') ≡ merge t t' xs ys row → t ≡ totals_in a → t' ≡ totals_in b → (r, row') ≡ merged_out a b xs ys row
  both-merged {row'} {t'} is is' told merged e e' =
      ap (λ (x : FiguresOutcome). (x, row')) told ∙ ap figures_out merged ∙ ap (λ (z : Totals). figures_out (merge z t' xs ys row)) e
      ∙ ap (λ (z : Totals). figures_out (merge (totals_in a) z xs ys row)) e'
      ∙ sym (ap (λ k. cond (eqb k 0) both (refused_figures b.number b.place, row)) is') ∙ sym (open-first is)
