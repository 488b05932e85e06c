-- A log in which a move is noted, row by row. Assumes nothing.
use Prim.Native.Nat.{ℕ, min, ◌+◌, ◌*◌}
use native.Mathlib.Numerals.{add-one}
use mathlib.Core.List.{List}
use mathlib.Core.Path.{◌≡◌, refl}
use lib.IntN.{ℤ}
use lib.ListN.{set}
use Rattle.paper.specs.Lists.{nat}
use Rattle.paper.specs.Net.{Values}
use Rattle.paper.specs.Checks.{Move}
use Rattle.paper.specs.Log.{Log, log_in, laid_at, logged, room_made, noted}

module _ (l : Log) where
  -- a move noted where there is room
  pub noted-is : (old : Values) (mv : Move) (room : Log) (k : ℕ) {vars : List ℕ} {values : List ℤ} → room ≡ room_made l → k ≡ min (logged l) 63
      → vars ≡ laid_at (64 * k) mv.pairs (nat mv.vars) room.vars → values ≡ laid_at (64 * k) mv.pairs (λ i. old (nat mv.vars i)) room.values
      → log_in (set (set room.sizes 0 (k + 1)) (k + 1) mv.pairs) vars values ≡ noted l old mv
  noted-is old mv room k e q v w = rw (v, w, add-one k, q, e) refl
