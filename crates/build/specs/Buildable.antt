-- What an accepted build works over. Assumes nothing.
use Rattle.std.specs.Prelude.{ℕ, ℤ, suc, ◌≤◌, true, List, [], ◌≡◌, length}
use Rattle.paper.specs.Checks.{Sound, bounds_in}
use Rattle.paper.specs.Chains.{determined}
use Rattle.paper.specs.Calls.{BuildLent, start_values}
use Rattle.tables.specs.declared.lent.Tables as code-tables
use Rattle.verdicts.specs.Lent.{no_record, lent_to_build}
use Rattle.chains.specs.Links.{kinded, Grouped}

-- a build that is accepted: sound tables with the numbers found, whose closed chains are permitted and whose variables the start values determine, and the rows to
-- fill as long as they must be; the bounds play no part
pub record Buildable (l : BuildLent) (state : List ℕ) : Type 0 where
  pub sound : Sound l.tables
  pub grouped : let t = l.tables in Grouped (kinded t.n t.m t.kinds t.makes t.firsts t.counts t.vars) state
  pub determined : (v : ℕ) → determined l.tables (start_values l) v ≡ true
  pub in-starts : l.tables.n ≤ length l.starts
  pub in-numbers : l.tables.n ≤ length l.numbers
  pub in_order : l.tables.m ≤ length l.order
  pub in-stored : l.tables.n ≤ length l.stored
  pub index-starts : suc l.tables.n ≤ length l.index.starts
  pub index-places : l.tables.e ≤ length l.index.places
  pub in-reasons : l.tables.n ≤ length l.reasons
  pub in-log : 65 ≤ length l.log_sizes

-- what is lent to be filled, without a record and without bounds
abbrev pub to_fill : code-tables.Tables → List ℤ → List ℕ → List ℕ → List ℤ → List ℕ → List ℕ → List ℕ → List ℕ → BuildLent
to_fill tables = lent_to_build no_record tables (bounds_in [] [])
