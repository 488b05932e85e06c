-- The groups that a walk finds, in two rows. Assumes nothing.
use Rattle.std.specs.Prelude.{ℕ, zero, suc, ◌≤◌, ◌<◌, cond, List, map, ◌≡◌, eqb, length}
use Rattle.paper.specs.Lists.{greatest, nat}
use Rattle.paper.specs.Chains.{grouped, outside}

-- 0 without links; else 1 plus the greatest of the numbers that the links of the group lead to outside it
abbrev pub number_over : (ℕ → List ℕ) → ℕ → List ℕ → ℕ → ℕ
number_over dep n numbers v = cond (eqb (length (dep v)) 0) zero (suc (greatest (map (nat numbers) (outside dep n v))))

-- variables have the same mark exactly if they are of one group, and every variable has its group's number
pub record Found (n : ℕ) (dep : ℕ → List ℕ) (marks numbers : List ℕ) : Type 0 where
  pub marks-long : n ≤ length marks
  pub numbers-long : n ≤ length numbers
  pub same : (v w : ℕ) → v < n → w < n → eqb (nat marks v) (nat marks w) ≡ grouped dep n v w
  pub number : (v : ℕ) → v < n → nat numbers v ≡ number_over dep n numbers v
  pub small : (v : ℕ) → v < n → nat numbers v ≤ n
