-- A walk from variable to variable that marks each with 1 before it goes on, so that it ends where chains close. From a variable that is worked
-- out, as `works` says, it goes on to those that `to` leads to. Assumes nothing.
use Rattle.std.specs.Prelude.{ℕ, Bool, true, not, ◌⊎◌, ◌≢◌, ◌≡◌, eqb, length}
use mathlib.Core.List.{List, Memᴰ}
use Rattle.paper.specs.Lists.{nat}
use Rattle.routes.specs.Reach.{Follows, Either}

-- v is still to be marked
abbrev pub unmarked : List ℕ → ℕ → Bool
unmarked marks v = not (eqb (nat marks v) 1)

module _ (works : ℕ → Bool) (to : ℕ → List ℕ) where
  -- the walk from v: what a variable leads to is marked with it, unless the variable was marked before
  pub record Walked (v : ℕ) (before after : List ℕ) : Type 0 where
    pub long : length after ≡ length before
    pub kept : (u : ℕ) → nat before u ≡ 1 → nat after u ≡ 1
    pub here : works v ≡ true → nat after v ≡ 1
    pub on : (a i : ℕ) → nat after a ≡ 1 → Memᴰ i (to a) → works i ≡ true → (nat before a ≡ 1) ⊎ (nat after i ≡ 1)
    pub only : (test : ℕ → Bool) → Follows works to test → test v ≡ true → (u : ℕ) → Either works to test before after u

  -- the walk on its way from marks `mid` that hold v's: those in `left` are still to come
  pub record Walking (v : ℕ) (left : ℕ → Type 0) (mid marks : List ℕ) : Type 0 where
    pub long : length marks ≡ length mid
    pub kept : (u : ℕ) → nat mid u ≡ 1 → nat marks u ≡ 1
    pub on : (a i : ℕ) → nat marks a ≡ 1 → Memᴰ i (to a) → works i ≡ true → ((a ≢ v) × (nat mid a ≡ 1)) ⊎ ((nat marks i ≡ 1) ⊎ left i)
    pub only : (test : ℕ → Bool) → Follows works to test → test v ≡ true → (u : ℕ) → Either works to test mid marks u
