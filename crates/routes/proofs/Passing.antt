-- One named variable after another: those that moved are marked, with what is made from them. Assumes nothing.
use Prim.Native.Nat.{ℕ, ◌+◌, ◌≤◌, ◌<◌}
use mathlib.Core.Bool.{Bool, true, false}
use mathlib.Core.List.Memᴰ
use mathlib.Core.List.{List, ◌∷◌, Memᴰ}
use mathlib.Core.Logic.{◌⊎◌, inl, inr}
use mathlib.Core.Path.{◌≡◌, ap, sym, ◌∙◌, subst}
use lib.IntN.{ℤ}
use lib.ListN.{length, drop, drop_of_length-le}
use Rattle.paper.specs.Lists.{nat}
use Rattle.paper.specs.Net.{differs}
use Rattle.paper.proofs.Lists.{clash}
use Rattle.paper.proofs.Scan.{next}
use Rattle.rows.specs.Changes.{values_of}
use Rattle.routes.specs.Reach.{Reached, Reaching}
use Rattle.routes.specs.Readers.{Moved, none}
use Rattle.routes.proofs.Members.{at_place}
use Rattle.routes.proofs.Reach.{reaching-step, reaching-skip}

-- those from place i on are left
abbrev pub Passed : (ℕ → List ℕ) → List ℕ → List ℤ → List ℤ → List ℕ → ℕ → List ℕ → Type 0
Passed to moves stored trial before i marks = Reaching (λ u. true) to (Moved moves stored trial) (λ u. Memᴰ u (drop i moves)) before marks

module _ (to : ℕ → List ℕ) (moves : List ℕ) (stored trial : List ℤ) (before : List ℕ) where
  module _ (i : ℕ) (marks : List ℕ) (P : Passed to moves stored trial before i marks) where
    module _ (l : i < length moves) (v : ℕ) (q : v ≡ nat moves i) (b : Bool) (e : b ≡ differs (values_of trial) (values_of stored) v) where
      first : (u : ℕ) → Memᴰ u (drop i moves) → (u ≡ v) ⊎ Memᴰ u (drop (i + 1) moves)
      first u m = Memᴰ.cases_cons (subst (Memᴰ u) (next moves i 0 l ∙ ap (◌∷ drop (i + 1) moves) (sym q)) m)

      pub passed-yes : b ≡ true → (after : List ℕ) → Reached (λ u. true) to v marks after → Passed to moves stored trial before (i + 1) after
      passed-yes h after r =
          reaching-step (λ u. true) to (Moved moves stored trial) (λ u. Memᴰ u (drop i moves)) (λ u. Memᴰ u (drop (i + 1) moves)) before marks P v after
          (subst (λ z. Memᴰ z moves) (sym q) (at_place moves i l), sym e ∙ h) first r

      pub passed-no : b ≡ false → Passed to moves stored trial before (i + 1) marks
      passed-no h =
          reaching-skip (λ u. true) to (Moved moves stored trial) (λ u. Memᴰ u (drop i moves)) (λ u. Memᴰ u (drop (i + 1) moves)) before marks P
          (λ u g m. go u g (first u m))
        where
          go : (u : ℕ) → Moved moves stored trial u → (u ≡ v) ⊎ Memᴰ u (drop (i + 1) moves) → Memᴰ u (drop (i + 1) moves)
          go u g (inl w) = clash g.1 (ap (differs (values_of trial) (values_of stored)) w ∙ sym e ∙ h)
          go u g (inr m) = m

    pub passed-end : length moves ≤ i → Reaching (λ u. true) to (Moved moves stored trial) none before marks
    passed-end h =
        reaching-skip (λ u. true) to (Moved moves stored trial) (λ u. Memᴰ u (drop i moves)) none before marks P
        (λ u g m. Memᴰ.not-nil (subst (Memᴰ u) (drop_of_length-le moves {i = i} h) m))
