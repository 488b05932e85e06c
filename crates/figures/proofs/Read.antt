-- What `trials` gives a move by a route, into rows of 0, is its trial by that route. Assumes nothing.
use Prim.Native.Nat.{ℕ}
use mathlib.Core.List.{List, [], ◌∷◌, map}
use mathlib.Core.Path.{◌≡◌, refl, ap}
use Rattle.paper.specs.Checks.{Move}
use Rattle.paper.specs.Calls.{Session, Model}
use Rattle.figures.specs.Outcomes.{tried_once, outcome}
use Rattle.figures.specs.Figures.{moves_of}
use Rattle.figures.specs.Laws.{outcomes_read, tried_by, FoldOfTrials}

read_back : (s : Session) (w : Model) (asked : ℕ) (mvs : List Move) → let by = tried_by s w asked mvs in map (outcome s w asked) mvs ≡ outcomes_read (by 1) (by 2) (by 3)
unfolding tried_once
read_back s w asked [] = refl
read_back s w asked (mv ∷ mvs) = ap (outcome s w asked mv ∷◌) (read_back s w asked mvs)

pub fold-of-trials : FoldOfTrials
fold-of-trials s w asked b = read_back s w asked (moves_of b)
