-- What holds of merged figures: two batches joined have the merged figures of both. `proofs/Joined` proves it. Assumes nothing.
use Rattle.std.specs.Prelude.{ℕ, ◌≤◌, true, List, ◌++◌, ◌≡◌, ℤ, length}
use Rattle.paper.specs.Calls.{Session, Model}
use Rattle.figures.specs.Figures.{outcomes, totals, tallies, figures}
use Rattle.figures.specs.Laws.{as_batch}
use Rattle.merging.specs.Merge.{merge_fits, merge}

-- joined they have the merged figures of both, wherever these fit
abbrev pub JoinedIsMerged : Type 0
JoinedIsMerged =
    (s : Session) (w : Model) (asked : ℕ) (moves moves' : List (List (ℕ × ℤ))) → length (moves ++ moves') ≤ 1000 → (row row' both : List ℕ)
    → let os = outcomes s w asked (as_batch moves) in let os' = outcomes s w asked (as_batch moves') in
    merge_fits (totals os) (totals os') (tallies os row) (tallies os' row') both ≡ true
    → merge (totals os) (totals os') (tallies os row) (tallies os' row') both ≡ figures s w asked (as_batch (moves ++ moves')) both
