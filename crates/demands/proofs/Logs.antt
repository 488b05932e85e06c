-- A log with one more move: its rows are as long as they were, so it has the room that they had, and for the move noted it has the values before
-- it. Assumes nothing.
use Prim.Native.Nat.{ℕ, pred, min, ◌*◌, ◌≤◌, ◌<◌}
use native.Mathlib.Omega.{arith}
use mathlib.Core.Bool.{Bool, true, false, cond}
use mathlib.Core.List.{List}
use mathlib.Core.Path.{◌≡◌, ap, ◌∙◌}
use lib.IntN.{pos}
use lib.Dec.{ltb}
use lib.ListN.{length, get_or, take, drop, length-append, length-take, length-drop, length-set}
use lib.Seq.{drop_at, length-take-le}
use Rattle.paper.specs.Lists.{nat, over}
use Rattle.paper.specs.Net.{Values}
use Rattle.paper.specs.Tables.{Tables}
use Rattle.paper.specs.Checks.{Bounds, Move}
use Rattle.paper.specs.Log.{Log, log_in, slid, laid_at, logged, back, room_made, noted}
use Rattle.paper.proofs.Buffers.{over-at, over-length}
use Rattle.paper.proofs.Known.{MoveKnown, Long, LogKnown, fits-long}
use Rattle.paper.proofs.Log.{noted-logged}

-- ── a row laid over ──
laid-length : {A : Type 0} (at n : ℕ) (f : ℕ → A) (l : List A) → at ≤ length l → n ≤ length (drop at l) → length (laid_at at n f l) ≡ length l
laid-length at n f l h k =
    length-append (take at l) (over n f (drop at l)) ∙ (let a = length-take-le at l h in let e = over-length f n (drop at l) k in let d = length-drop at l in omega arith)

laid-at : {A : Type 0} (at n : ℕ) (f : ℕ → A) (l : List A) (d : A) (i : ℕ) → at ≤ length l → i < n → get_or (drop at (laid_at at n f l)) i d ≡ f i
laid-at at n f l d i h low = ap (λ row. get_or row i d) (drop_at (take at l) (over n f (drop at l)) at (length-take-le at l h)) ∙ over-at f n (drop at l) i d low

-- ── a log ──
module _ (l : Log) (long : Long l) where
  room-long : Long (room_made l)
  room-long = go (ltb (logged l) 64)
    where
      go : (x : Bool) → Long (cond x l (log_in (slid 1 64 l.sizes) (slid 64 4032 l.vars) (slid 64 4032 l.values)))
      go true = long
      go false = let h = long in record {
        in-sizes = simp (length-append, length-take, length-drop) (omega arith);
        in-vars = simp (length-append, length-take, length-drop) (omega arith);
        in-values = simp (length-append, length-take, length-drop) (omega arith);
      }

  module _ (old : Values) (mv : Move) (few : mv.pairs ≤ 64) where
    pub noted-long : Long (noted l old mv)
    noted-long =
        let m = room_made l in let h = room-long in let at = 64 * min (logged l) 63 in
        let d = length-drop at m.vars in let d' = length-drop at m.values in
        let e = laid-length at mv.pairs (nat mv.vars) m.vars (omega arith) (omega arith) in
        let e' = laid-length at mv.pairs (λ i. old (nat mv.vars i)) m.values (omega arith) (omega arith) in
        record { in-sizes = simp length-set (omega arith); in-vars = omega arith; in-values = omega arith }

-- the latest move of a log with one more has the value before it at each of its variables
pub noted-value : (t : Tables) (bs : Bounds) (l : Log) (kept : ℕ) (known : LogKnown l t bs kept) (old : Values) (mv : Move) → MoveKnown t bs mv
    → (i : ℕ) → i < mv.pairs → get_or (back (noted l old mv) (pred (logged (noted l old mv)))).values i (pos 0) ≡ old (nat mv.vars i)
noted-value t bs l kept known old mv move i low =
    let h = room-long l (fits-long l known.fits) in let k = min (logged l) 63 in
    ap (λ n. get_or (drop (64 * pred n) (noted l old mv).values) i (pos 0)) (noted-logged t bs l kept known old mv move)
    ∙ laid-at (64 * k) mv.pairs (λ j. old (nat mv.vars j)) (room_made l).values (pos 0) i (omega arith) low
