-- The stack of the walk that finds groups. The mark of a variable is 0 before it is entered, its place on the stack while it waits for its group to be closed,
-- and above 4096 then. Place 0 of the stack holds how many wait. Assumes nothing.
use Rattle.std.specs.Prelude.{ℕ, ◌≤◌, ◌<◌, Bool, cond, List, ◌⊎◌, ◌≡◌, ltb, length}
use Rattle.paper.specs.Lists.{nat, size}
use Rattle.groups.specs.Asked.{asked_by}

-- what has been entered, and what waits
abbrev pub entered : List ℕ → ℕ → Bool
entered marks v = ltb 0 (nat marks v)

pub record Waits (marks : List ℕ) (v : ℕ) : Type 0 where
  pub some : 0 < nat marks v
  pub few : nat marks v ≤ 4096

-- the stack holds those that wait, each at the place that its mark says
pub record Stacked (n : ℕ) (marks stack : List ℕ) : Type 0 where
  pub marks-long : n ≤ length marks
  pub below : (v : ℕ) → 0 < nat marks v → v < n
  pub room : n < length stack
  pub few : nat stack 0 ≤ size (entered marks) n
  pub at : (i : ℕ) → 0 < i → i ≤ nat stack 0 → nat marks (nat stack i) ≡ i
  pub back : (v : ℕ) → Waits marks v → (nat marks v ≤ nat stack 0) × (nat stack (nat marks v) ≡ v)

-- ── closing a group ──
-- what the links of the variable at place i of the stack ask
abbrev pub asked_at : (ℕ → List ℕ) → List ℕ → List ℕ → List ℕ → ℕ → ℕ
asked_at dep marks stack numbers i = asked_by dep marks numbers (nat stack i)

-- 1 with links, 0 without
abbrev pub first_number : List ℕ → List ℕ → ℕ → ℕ
first_number begins stops v = cond (ltb (nat begins v) (nat stops v)) 1 0

-- best is the greatest of the first and of f at the places from p on and below top
pub record Best (f : ℕ → ℕ) (p top first best : ℕ) : Type 0 where
  pub first-in : first ≤ best
  pub each : (i : ℕ) → p ≤ i → i < top → f i ≤ best
  pub hit : (best ≡ first) ⊎ ((i : ℕ) × (p ≤ i) × (i < top) × (best ≡ f i))

-- from place p on and below top the stack's variables have the mark and the number given, and all else is as it was
pub record Marked (p top mark number : ℕ) (marks numbers marks' numbers' : List ℕ) : Type 0 where
  pub marks-long : length marks' ≡ length marks
  pub numbers-long : length numbers' ≡ length numbers
  pub inside : (v : ℕ) → p ≤ nat marks v → nat marks v < top → (nat marks' v ≡ mark) × (nat numbers' v ≡ number)
  pub before : (v : ℕ) → nat marks v < p → (nat marks' v ≡ nat marks v) × (nat numbers' v ≡ nat numbers v)
  pub beyond : (v : ℕ) → top ≤ nat marks v → (nat marks' v ≡ nat marks v) × (nat numbers' v ≡ nat numbers v)
