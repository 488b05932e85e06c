-- A log that passed check 16 and holds a move has its latest move inside its rows, and a row lent from a place on is what stands there. Assumes nothing.
use Prim.Native.Nat.{ℕ, pred, ◌+◌, ◌-◌, ◌*◌, ◌<◌}
use native.Mathlib.Nat.{le_of_eq}
use native.Mathlib.Numerals.{add-one}
use native.Mathlib.Omega.{arith}
use mathlib.Core.List.{List}
use mathlib.Core.Path.{◌≡◌, ap, ◌∙◌}
use lib.ListN.{length, take, drop, length-drop}
use lib.Seq.{take_all}
use Rattle.paper.specs.Lists.{nat}
use Rattle.paper.specs.Tables.{Tables}
use Rattle.paper.specs.Checks.{Bounds}
use Rattle.paper.specs.Log.{Log, logged, back}
use Rattle.paper.proofs.Known.{LogKnown, fits-long}
use Rattle.checks.specs.Moves.{move_of}
use Rattle.verdicts.specs.Latest.{LatestFits}

pub latest-fits : (l : Log) (t : Tables) (bs : Bounds) (kept : ℕ) → LogKnown l t bs kept → 0 < logged l → LatestFits t.n l
latest-fits l t bs kept k some =
    let long = fits-long l k.fits in let few = k.few in let mv = k.moves (pred (logged l)) (omega arith) in
    record {
      few = omega arith;
      in-sizes = omega (arith, long.in-sizes);
      in-vars = omega (arith, long.in-vars);
      in-values = omega (arith, long.in-values);
      pairs = record { in-vars = mv.vars-long; in-values = mv.values-long; low = mv.low };
    }

rest : {A : Type 0} (k : ℕ) (row : List A) → take (length row - k) (drop k row) ≡ drop k row
rest k row = take_all (length row - k) (drop k row) (le_of_eq (length-drop k row))

-- the move, as a program reads it
pub latest-read : (l : Log) (at pairs : ℕ) → at ≡ pred (logged l) → pairs ≡ nat l.sizes (at + 1)
    → move_of pairs (take (length l.vars - 64 * at) (drop (64 * at) l.vars)) (take (length l.values - 64 * at) (drop (64 * at) l.values)) ≡ back l (pred (logged l))
latest-read l at pairs e p =
    (λ i. move_of ((p ∙ ap (nat l.sizes) (add-one at)) i) (rest (64 * at) l.vars i) (rest (64 * at) l.values i)) ∙ ap (back l) e
