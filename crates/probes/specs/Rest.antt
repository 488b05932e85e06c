-- Rows of a batch's own at rest between two moves, and astray during one. Assumes nothing.
use Rattle.std.specs.Prelude.{ℕ, ◌≤◌, ◌<◌, List, ◌⊎◌, ◌≡◌, ℤ, length}
use Rattle.paper.specs.Lists.{nat}
use Rattle.rows.specs.Changes.{values_of}
use Rattle.probes.specs.Touched.{Listed}

-- no variable is marked, and there is no work
pub record Unmarked (n : ℕ) (marks work : List ℕ) : Type 0 where
  pub in-marks : n ≤ length marks
  pub in-work : n ≤ length work
  pub no-mark : (u : ℕ) → nat marks u ≡ 0
  pub no-work : (u : ℕ) → u < n → nat work u ≡ 0

module _ (n : ℕ) (stored trial : List ℤ) (flags marks work : List ℕ) where
  -- the variable u has its stored value, no flag, no mark and no work
  pub record Rests (u : ℕ) : Type 0 where
    pub value : u < n → values_of trial u ≡ values_of stored u
    pub no_flag : u < n → nat flags u ≡ 0
    pub no-mark : nat marks u ≡ 0
    pub no-work : u < n → nat work u ≡ 0

  -- the rows have room for n variables
  pub record Roomy : Type 0 where
    pub in-stored : n ≤ length stored
    pub in-trial : n ≤ length trial
    pub in-flags : n ≤ length flags
    pub in-marks : n ≤ length marks
    pub in-work : n ≤ length work

  -- every variable rests
  pub record AtRest : Type 0 where
    pub roomy : Roomy
    pub each : (u : ℕ) → Rests u

  -- every variable rests that is not among those listed from place i on
  pub record Astray (touched : List ℕ) (i count : ℕ) : Type 0 where
    pub roomy : Roomy
    pub in_list : count ≤ length touched
    pub low : (j : ℕ) → j < count → nat touched j < n
    pub each : (u : ℕ) → Rests u ⊎ Listed touched i count u
