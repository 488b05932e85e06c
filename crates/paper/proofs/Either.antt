-- Two moves kept one after the other: what an accepted keep leaves is fresh again and has the search values with its move put in, so all that the next keep
-- can still be refused for is that some variable is not determined; and that is judged over the same search values in either order, and as one move.
-- Assumes nothing.
use Prim.Native.Nat.{ℕ, ◌≤◌, ◌<◌}
use native.Mathlib.Nat.{lt_irrefl}
use native.Mathlib.Omega.{arith}
use mathlib.Core.Bool.{Bool, true, false}
use mathlib.Core.List.{List}
use mathlib.Core.Path.{◌≡◌, refl, ap, sym, ◌∙◌}
use lib.IntN.{ℤ, pos}
use lib.Dec.{ltb}
use lib.ListN.{take, length-take, get_or-eq_default}
use borrow.Author.Tests.{ltb-true, ltb-false}
use Rattle.paper.specs.Net.{Values, input-to-output, moved, names}
use Rattle.paper.specs.Tables.{Tables, net, values_in}
use Rattle.paper.specs.Chains.{determined}
use Rattle.paper.specs.Checks.{Bounds, Move, pairs_of_move}
use Rattle.paper.specs.Log.{Log}
use Rattle.paper.specs.Moves.{Apart, AllPairs}
use Rattle.paper.specs.Calls.{Session, Model, stored_values, KeepLent, kept_stored}
use Rattle.paper.proofs.Sizes.{sized-facts}
use Rattle.paper.proofs.Fresh.{Alike, moved-alike, unnamed}
use Rattle.paper.proofs.Needs.{determined-alike}
use Rattle.paper.proofs.Known.{MoveKnown, named-below, KeepKnown}
use Rattle.paper.proofs.Moves.{new-search, kept-value, either_order, as_one}

-- a lent row of values is 0 beyond the variables
values-beyond : (t : Tables) (row : List ℤ) (v : ℕ) → t.n ≤ v → values_in t row v ≡ pos 0
values-beyond t row v l = get_or-eq_default (take t.n row) (pos 0) (simp length-take (omega arith))

-- ── the values that an accepted keep leaves ──
module _ (s : Session) (l : Log) (w : Model) (c : KeepLent) (has : KeepKnown s l w c) where
  abbrev t : Tables
  t = w.tables

  abbrev mv : List (ℕ × ℤ)
  mv = pairs_of_move c.move

  -- the values before it, with its move in, and those that it leaves
  abbrev old : Values
  old = stored_values w

  abbrev left : Values
  left = values_in w.tables (kept_stored w.tables w.stored c)

  some : 0 < w.tables.n
  some = (sized-facts t has.model.sound.sized).n-some

  -- search variables have the values with the move put in
  pub kept-search : Alike (net w.tables) (values_in w.tables (kept_stored w.tables w.stored c)) (moved (pairs_of_move c.move) (stored_values w))
  kept-search v e = go (ltb v t.n) refl (names mv v) refl
    where
      go : (x : Bool) → ltb v t.n ≡ x → (y : Bool) → names mv v ≡ y → left v ≡ moved mv old v
      go true q y r = kept-value w c v (ltb-true v t.n q) ∙ new-search (net t) t.n some input-to-output old (moved mv old) v e
      go false q true r = let far = ltb-false v t.n q in let low = named-below t w.bounds c.move has.move v r in absurd (lt_irrefl v (omega arith))
      go false q false r = let far = ltb-false v t.n q in
          values-beyond t (kept_stored w.tables w.stored c) v far ∙ sym (unnamed mv old v r ∙ values-beyond t w.stored v far)

  -- so one more move over them is judged by both moves
  pub kept-determined : (next : List (ℕ × ℤ))
      → determined w.tables (moved next (values_in w.tables (kept_stored w.tables w.stored c))) ≡ determined w.tables (moved next (moved (pairs_of_move c.move) (stored_values w)))
  kept-determined next = determined-alike t (moved next left) (moved next (moved mv old)) (moved-alike (net t) next left (moved mv old) kept-search)

-- ── both moves, and one of all their pairs ──
module _ (t : Tables) (bs : Bounds) (a b : Move) (known-a : MoveKnown t bs a) (known-b : MoveKnown t bs b) (apart : Apart a b) (s : Values) where
  -- judged over the same search values in either order
  pub either-determined : determined t (moved (pairs_of_move a) (moved (pairs_of_move b) s)) ≡ determined t (moved (pairs_of_move b) (moved (pairs_of_move a) s))
  either-determined = ap (determined t) (either_order t bs a b known-a known-b apart s)

  pub one-determined : (one : Move) → AllPairs a b one → determined t (moved (pairs_of_move one) s) ≡ determined t (moved (pairs_of_move a) (moved (pairs_of_move b) s))
  one-determined one all = ap (determined t) (as_one t bs a b known-a known-b apart one all s)
