-- The reasons of variables over the rows that are read. Assumes nothing.
use Rattle.std.specs.Prelude.{ℕ, zero, suc, ◌+◌, ◌≤◌, ◌<◌, true, cond, ◌&&◌, List, ◌⊎◌, ◌≡◌, eqb, ltb, ℤ, pos, length, get_or}
use Rattle.integers.specs.Integers.{eq_z}
use Rattle.paper.specs.Lists.{all, nat}
use Rattle.paper.specs.Formula.{blank}
use Rattle.paper.specs.Reason.{why}
use Rattle.paper.specs.Checks.{arity}
use Rattle.formulas.specs.Inputs.{part_of, inputs}

-- row r stands in its tables, has as many inputs as its kind takes, and these have values
pub record RowReads (r : ℕ) (kinds firsts counts vars : List ℕ) (values : List ℤ) : Type 0 where
  pub in-kinds : r < length kinds
  pub in-firsts : r < length firsts
  pub in-counts : r < length counts
  pub in-vars : nat firsts r + nat counts r ≤ length vars
  pub suits : arity (nat kinds r) (nat counts r) ≡ true
  pub below : all (λ v. ltb v (length values)) (part_of (nat firsts r) (nat counts r) vars) ≡ true

module _ (kinds firsts counts vars : List ℕ) (values : List ℤ) where
  -- the reason of a value of row r
  abbrev pub row_shown : ℕ → ℤ → ℕ
  row_shown r value = cond (eq_z value blank) (why (nat kinds r) (inputs (part_of (nat firsts r) (nat counts r) vars) values)) 0

  -- by an entry of the row of makers: one more than the row, or 0
  abbrev pub by_maker : ℤ → ℕ → ℕ
  by_maker value zero = 0
  by_maker value (suc r) = row_shown r value

  module _ (by : List ℕ) where
    -- variable v and the row that makes it can be read
    pub record Reads (v : ℕ) : Type 0 where
      pub in-by : v < length by
      pub in-values : v < length values
      pub row : (r : ℕ) → nat by v ≡ suc r → RowReads r kinds firsts counts vars values

    -- so can all below n
    pub record AllRead (n : ℕ) : Type 0 where
      pub at : (v : ℕ) → v < n → Reads v

    -- the reason of v if its flag is 1, else the stored one
    abbrev pub current_by : List ℕ → ℕ → ℕ → ℕ
    current_by flags stored v = cond (eqb (nat flags v) 1) (by_maker (get_or values v (pos 0)) (nat by v)) stored

    -- the reason of v if its flag is 1 and its value blank, else the stored one
    abbrev pub blank_by : List ℕ → ℕ → ℕ → ℕ
    blank_by flags stored v = cond (eqb (nat flags v) 1 && eq_z (get_or values v (pos 0)) blank) (current_by flags stored v) stored

-- the places from first to before end have had their turn: each has what it gives of what stood there, and the others stand as before
pub record PartNoted (left : ℕ → ℕ → ℕ) (first end : ℕ) (before after : List ℕ) : Type 0 where
  pub long : length after ≡ length before
  pub inside : (v : ℕ) → first ≤ v → v < end → nat after v ≡ left (nat before v) v
  pub outside : (v : ℕ) → (v < first) ⊎ (end ≤ v) → nat after v ≡ nat before v
