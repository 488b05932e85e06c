-- What stands in a list: at a place of it, and in what it is mapped to. Assumes nothing.
use Prim.Native.Nat.{ℕ, zero, suc, ◌<◌}
use native.Mathlib.Omega.{arith}
use mathlib.Core.List.{List, [], ◌∷◌, map, Memᴰ}
use mathlib.Core.Path.{refl, ap}
use lib.ListN.{length}
use Rattle.paper.specs.Lists.{nat}

pub at_place : (l : List ℕ) (j : ℕ) → j < length l → Memᴰ (nat l j) l
at_place [] j h = absurd (omega arith)
at_place (x ∷ xs) zero h = Memᴰ.head refl
at_place (x ∷ xs) (suc j) h = Memᴰ.tail (at_place xs j (omega arith))

pub mapped : {A B : Type 0} (f : A → B) (xs : List A) {x : A} → Memᴰ x xs → Memᴰ (f x) (map f xs)
mapped f (y ∷ ys) (Memᴰ.head q) = Memᴰ.head (ap f q)
mapped f (y ∷ ys) (Memᴰ.tail m) = Memᴰ.tail (mapped f ys m)
mapped {A = A} {B = B} f [] x3 = elim x3 [ ]
