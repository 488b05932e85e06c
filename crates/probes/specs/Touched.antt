-- What the walk along the readers has touched, as a list. Assumes nothing.
use Rattle.std.specs.Prelude.{ℕ, ◌≤◌, ◌<◌, Bool, true, false, cond, List, ◌≡◌, eqb, length}
use Rattle.paper.specs.Lists.{nat, size}
use Rattle.closed_routes.specs.Walk.{Walked}

-- u stands at one of the places from i to the end of the list
pub record Listed (touched : List ℕ) (i count u : ℕ) : Type 0 where
  pub place : ℕ
  pub from : i ≤ place
  pub before : place < count
  pub is : nat touched place ≡ u

-- of n variables just those that are marked are listed, once each, and the row of work has their makers
pub record Noted (n : ℕ) (by marks work touched : List ℕ) (count : ℕ) : Type 0 where
  pub in-by : n ≤ length by
  pub in-work : n ≤ length work
  pub in_list : n ≤ length touched
  pub counted : count ≡ size (λ v. eqb (nat marks v) 1) n
  pub low : (i : ℕ) → i < count → nat touched i < n
  pub listed : (u : ℕ) → nat marks u ≡ 1 → Listed touched 0 count u
  pub planned : (u : ℕ) → u < n → nat work u ≡ cond (eqb (nat marks u) 1) (nat by u) 0

-- the walk from v if it is to be walked, and else nothing
pub record WalkedIf (to : ℕ → List ℕ) (walks : Bool) (v : ℕ) (before after : List ℕ) : Type 0 where
  pub walked : walks ≡ true → Walked (λ u. true) to v before after
  pub still : walks ≡ false → after ≡ before
