-- The walk that finds groups: what its rows hold. The mark of a variable is 0 before it is entered, its place on the stack while it waits for its group to be
-- closed, and then 4097 and the variable that closed the group. Assumes nothing.
use Rattle.std.specs.Prelude.{ℕ, suc, ◌+◌, ◌≤◌, ◌<◌, Bool, ◌≢◌, ◌≡◌, eqb, ltb, length}
use mathlib.Core.List.{List, [], Memᴰ}
use Rattle.paper.specs.Lists.{nat, size}
use Rattle.groups.specs.Stack.{Waits, Stacked}

-- ── marks: of a variable that is not entered, and of one whose group is closed ──
abbrev pub unentered : List ℕ → ℕ → Bool
unentered marks v = eqb (nat marks v) 0

abbrev pub closed : List ℕ → ℕ → Bool
closed marks v = ltb 4096 (nat marks v)

-- w is v, or links lead from v to it
pub data Reaches (dep : ℕ → List ℕ) : ℕ → ℕ → Type 0 where
  here : {v : ℕ} → Reaches dep v v
  on : {v i w : ℕ} → Memᴰ i (dep v) → Reaches dep i w → Reaches dep v w

-- closed groups: links lead from them into closed groups, the marks are the same exactly within a group, and the numbers are right
pub record Settled (n : ℕ) (dep : ℕ → List ℕ) (marks numbers : List ℕ) : Type 0 where
  pub long : n ≤ length numbers
  pub links : (v i : ℕ) → 4096 < nat marks v → Memᴰ i (dep v) → 4096 < nat marks i
  pub root : (v r : ℕ) → nat marks v ≡ 4097 + r → nat marks r ≡ 4097 + r
  pub same : (v w : ℕ) → 4096 < nat marks v → Reaches dep v w → Reaches dep w v → nat marks v ≡ nat marks w
  pub one : (v w : ℕ) → 4096 < nat marks v → nat marks v ≡ nat marks w → Reaches dep v w
  -- the number of a group: 0 without links, 1 or more with links, above those of its links that lead outside, and no higher than that
  pub shared : (v w : ℕ) → 4096 < nat marks v → nat marks v ≡ nat marks w → nat numbers v ≡ nat numbers w
  pub leaf : (v : ℕ) → 4096 < nat marks v → dep v ≡ [] → nat numbers v ≡ 0
  pub linked : (v i : ℕ) → 4096 < nat marks v → Memᴰ i (dep v) → 0 < nat numbers v
  pub lower : (v i : ℕ) → 4096 < nat marks v → Memᴰ i (dep v) → nat marks i ≢ nat marks v → nat numbers i < nat numbers v
  pub hit : (v : ℕ) → 4096 < nat marks v → 1 < nat numbers v
      → (w i : ℕ) × (nat marks w ≡ nat marks v) × Memᴰ i (dep w) × (nat marks i ≢ nat marks v) × (nat numbers v ≡ suc (nat numbers i))
  pub small : (v : ℕ) → 4096 < nat marks v → nat numbers v ≤ size (closed marks) n

pub record WalkState (n : ℕ) (dep : ℕ → List ℕ) (marks stack numbers : List ℕ) : Type 0 where
  pub stacked : Stacked n marks stack
  pub settled : Settled n dep marks numbers

-- everything that waits leads to v
pub record Leading (dep : ℕ → List ℕ) (v : ℕ) (marks : List ℕ) : Type 0 where
  pub each : (u : ℕ) → Waits marks u → Reaches dep u v

-- a visit of v, which found r: what had been entered is as it was; v leads to what it entered; and what it entered and left waiting leads to v, has no link to a
-- place below r, and v leads to the one at that place, which waited before
pub record GroupVisit (n : ℕ) (dep : ℕ → List ℕ) (v : ℕ) (marks marks' stack' numbers' : List ℕ) (r : ℕ) : Type 0 where
  pub state : WalkState n dep marks' stack' numbers'
  pub kept : (u : ℕ) → 0 < nat marks u → nat marks' u ≡ nat marks u
  pub some : 0 < r
  pub least : r ≤ nat marks' v
  pub new : (u : ℕ) → nat marks u ≡ 0 → 0 < nat marks' u → Reaches dep v u
  pub left : (u : ℕ) → nat marks u ≡ 0 → Waits marks' u → (r ≤ 4096) × Reaches dep u v × ((i : ℕ) → Memᴰ i (dep u) → r ≤ nat marks' i)
  pub hit : r ≤ 4096 → (w : ℕ) × (nat marks w ≡ r) × Reaches dep v w

-- the variables below v have been visited
pub record EnteredBelow (n : ℕ) (dep : ℕ → List ℕ) (v : ℕ) (marks stack numbers : List ℕ) : Type 0 where
  pub state : WalkState n dep marks stack numbers
  pub passed : (u : ℕ) → u < v → 0 < nat marks u
  pub none : (u : ℕ) → Waits marks u → ⊥
