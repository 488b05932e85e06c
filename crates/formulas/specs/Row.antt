-- What a formula is handed, and what comes back for a kind code. Assumes nothing.
use Rattle.std.specs.Prelude.{ℕ, ◌+◌, ◌≤◌, true, cond, List, ◌≡◌, ltb, ℤ, length, Option, Some, None}
use Rattle.paper.specs.Lists.{all, between}
use Rattle.paper.specs.Formula.{input_at, some_blank, formula}
use Rattle.paper.specs.Checks.{arity}
use Rattle.formulas.specs.Inputs.{part_of}
use Rattle.formulas.specs.declared.windows.Window.{Window}

-- a formula of start, end and headway
abbrev pub of_three : (ℤ → ℤ → ℤ → ℤ) → List ℤ → ℤ
of_three f xs = f (input_at xs 0) (input_at xs 1) (input_at xs 2)

-- these three, none if an input is blank
abbrev pub window_of : List ℤ → Option Window
window_of xs = cond (some_blank xs) None (Some (record { start = input_at xs 0; end = input_at xs 1; headway = input_at xs 2 }))

-- ── what a row must be for its formula ──
-- as many entries as its kind takes; that each variable has a value is part of its inputs
pub record Row (kind : ℕ) (coefs : List ℤ) (vars : List ℕ) : Type 0 where
  pub same : length coefs ≡ length vars
  pub suits : arity kind (length vars) ≡ true

-- a row's part as checks 2 and 3 leave it: inside the entries, a known kind, as many places as it takes, variables that have a value
pub record PartFits (kind first count : ℕ) (coefs : List ℤ) (vars : List ℕ) (values : List ℤ) : Type 0 where
  pub in-coefs : first + count ≤ length coefs
  pub in-vars : first + count ≤ length vars
  pub known : between 1 kind 9 ≡ true
  pub suits : arity kind count ≡ true
  pub below : all (λ v. ltb v (length values)) (part_of first count vars) ≡ true

-- ── what comes back ──
-- a code from 1 to 9 picks the formula, and its value is what the paper's is; every other code is refused
unfoldable pub worked : ℕ → ℤ → List ℤ → List ℤ → Option ℤ
worked kind param coefs xs = cond (between 1 kind 9) (Some (formula kind param coefs xs)) None
