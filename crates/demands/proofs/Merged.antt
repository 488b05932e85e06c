-- An outcome that is not refused has the figures of its batch, and so a merged one has those of both batches as one. Assumes nothing.
use Prim.Native.Nat.{ℕ, ◌≤◌}
use mathlib.Core.Bool.{Bool, true, false, cond, true≢false}
use mathlib.Core.List.{List, ◌++◌}
use mathlib.Core.Path.{◌≡◌, refl, ap, sym}
use lib.Dec.{eqb}
use lib.IntN.{ℤ}
use lib.ListN.{length}
use Rattle.std.specs.Prelude.{Result, Ok, Err}
use Rattle.paper.specs.Calls.{Session, Model}
use Rattle.figures.specs.Figures.{outcomes, totals, tallies, fits}
use Rattle.figures.specs.Laws.{as_batch}
use Rattle.figures.specs.declared.outcomes.Outcome.{Outcome}
use Rattle.figures.specs.declared.Totals.{Totals}
use Rattle.tables.specs.Answers.{refusal}
use Rattle.tables.specs.declared.Refusal.{Refusal}
use Rattle.merging.specs.Merge.{merge_fits}
use Rattle.merging.proofs.Joined.{joined-is-merged}
use Rattle.capi.specs.Products.{figures_out, merged_out}
use Rattle.capi.specs.declared.FiguresOutcome.{FiguresOutcome}
use Rattle.demands.specs.Products.{batch_for_c, JoinedForC}

-- what is not refused fits
fitted : (t : Bool) (a : Result Totals Refusal × List ℕ) (lent : List ℕ) → (figures_out (cond t a (Err (refusal 1 0), lent))).0.number ≡ 0 → t ≡ true
fitted true a lent is = refl
fitted false a lent is = absurd (true≢false (sym (ap (λ k. eqb k 0) is)))

module _ (s : Session) (w : Model) (asked : ℕ) (moves moves' : List (List (ℕ × ℤ))) (few : length (moves ++ moves') ≤ 1000) (row row' both : List ℕ) where
  abbrev os : List Outcome
  os = outcomes s w asked (as_batch moves)

  abbrev os' : List Outcome
  os' = outcomes s w asked (as_batch moves')

  -- the outcome of a batch that fits, or not
  abbrev given : Bool → List Outcome → List ℕ → FiguresOutcome × List ℕ
  given t came lent = figures_out (cond t (Ok (totals came), tallies came lent) (Err (refusal 1 0), lent))

  abbrev of-both : Bool → Bool → FiguresOutcome × List ℕ
  of-both t t' = merged_out (given t os row).0 (given t' os' row').0 (given t os row).1 (given t' os' row').1 both

  split : (t t' : Bool) → (of-both t t').0.number ≡ 0 → of-both t t' ≡ batch_for_c s w asked (moves ++ moves') both
  unfolding merged_out
  split true true is =
      ap figures_out (joined-is-merged s w asked moves moves' few row row' both
      (fitted (merge_fits (totals os) (totals os') (tallies os row) (tallies os' row') both) _ both is))
  split true false is = absurd (true≢false (sym (ap (λ k. eqb k 0) is)))
  split false t' is = absurd (true≢false (sym (ap (λ k. eqb k 0) is)))

pub joined-for-c : JoinedForC
joined-for-c s w asked moves moves' few row row' both = split s w asked moves moves' few row row' both (fits (as_batch moves) row) (fits (as_batch moves') row')
