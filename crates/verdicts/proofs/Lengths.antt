-- Check 1 as a program tests it, one test after another. Assumes nothing.
use Prim.Native.Nat.{suc, ◌≤◌}
use mathlib.Core.Bool.{Bool, true, false, ◌&&◌}
use mathlib.Core.List.{List, ◌∷◌}
use mathlib.Core.Path.{◌≡◌, refl, ap, ◌∙◌}
use lib.Dec.{leb}
use lib.ListN.{length}
use borrow.Author.Tests.{leb-true}
use Rattle.paper.specs.Lists.{every}
use Rattle.paper.specs.Tables.{Tables, Index}
use Rattle.paper.specs.Checks.{Bounds}
use Rattle.paper.specs.Calls.{index_fits, bounds_fit}
use Rattle.paper.proofs.Lists.{and_left, and_right}
use Rattle.tables.proofs.Tests.{joined, joined-every}

-- the tables, and then the tests that the paper lists
pub tests : (s : Bool) (bs : List Bool) → joined s bs ≡ (s && every bs)
unfolding every
tests s bs = joined-every s bs

turned : (a b c : Bool) (bs : List Bool) → every (c ∷ a ∷ b ∷ bs) ≡ every (a ∷ b ∷ c ∷ bs)
unfolding every
turned a b true bs = refl
turned false b false bs = refl
turned true false false bs = refl
turned true true false bs = refl

-- the test that is made first stands third in the paper's list
pub third-first : (s a b c : Bool) (bs : List Bool) → joined s (c ∷ a ∷ b ∷ bs) ≡ (s && every (a ∷ b ∷ c ∷ bs))
third-first s a b c bs = tests s (c ∷ a ∷ b ∷ bs) ∙ ap (s &&◌) (turned a b c bs)

-- the bounds, as check 1 leaves them
pub bounds-long : (t : Tables) (bs : Bounds) → bounds_fit t bs ≡ true → (t.n ≤ length bs.lows) × (t.n ≤ length bs.highs)
bounds-long t bs h = (leb-true _ _ (and_left _ _ h), leb-true _ _ (and_right (leb t.n (length bs.lows)) _ h))

-- the index, as check 1 leaves it
pub index-long : (t : Tables) (x : Index) → index_fits t x ≡ true → (suc t.n ≤ length x.starts) × (t.e ≤ length x.places)
index-long t x h = (leb-true _ _ (and_left _ _ h), leb-true _ _ (and_right (leb (suc t.n) (length x.starts)) _ h))
