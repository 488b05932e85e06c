-- A walk from variable to variable that marks what it comes to with 1: the flags of routes 2 and 3, and the marks of route 3. From a variable
-- that is worked out, as `works` says, it goes on to those that `to` leads to. What is marked is the least that holds the start and goes on:
-- it is marked (`here`, `closed`), and nothing else is (`only`). Assumes nothing.
use Rattle.std.specs.Prelude.{ℕ, Bool, true, ◌⊎◌, ◌≡◌, length}
use mathlib.Core.List.{List, Memᴰ}
use Rattle.paper.specs.Lists.{nat}

module _ (works : ℕ → Bool) (to : ℕ → List ℕ) where
  -- what a marked variable leads to is marked
  pub record Closed (marks : List ℕ) : Type 0 where
    pub on : (a i : ℕ) → nat marks a ≡ 1 → Memᴰ i (to a) → works i ≡ true → nat marks i ≡ 1

  -- a test that is passed by what a variable that passes it leads to
  pub record Follows (test : ℕ → Bool) : Type 0 where
    pub on : (a i : ℕ) → test a ≡ true → works a ≡ true → Memᴰ i (to a) → test i ≡ true

  -- u is as it was, or it is worked out, passes the test and is marked
  abbrev pub Either : (ℕ → Bool) → List ℕ → List ℕ → ℕ → Type 0
  Either test before after u = (nat after u ≡ nat before u) ⊎ ((works u ≡ true) × (test u ≡ true) × (nat after u ≡ 1))

  -- the walk from v
  pub record Reached (v : ℕ) (before after : List ℕ) : Type 0 where
    pub long : length after ≡ length before
    pub kept : (u : ℕ) → nat before u ≡ 1 → nat after u ≡ 1
    pub here : works v ≡ true → nat after v ≡ 1
    pub closed : Closed after
    pub only : (test : ℕ → Bool) → Follows test → test v ≡ true → (u : ℕ) → Either test before after u

  -- walks from all goals, of which those in `left` are still to come
  pub record Reaching (goal left : ℕ → Type 0) (before after : List ℕ) : Type 0 where
    pub long : length after ≡ length before
    pub kept : (u : ℕ) → nat before u ≡ 1 → nat after u ≡ 1
    pub passed : (i : ℕ) → goal i → works i ≡ true → (nat after i ≡ 1) ⊎ left i
    pub closed : Closed after
    pub only : (test : ℕ → Bool) → Follows test → ((i : ℕ) → goal i → test i ≡ true) → (u : ℕ) → Either test before after u
