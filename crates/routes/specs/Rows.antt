-- The lent rows as the routes read them. Assumes nothing.
use Rattle.std.specs.Prelude.{ℕ, ◌≤◌, ◌<◌, true, List, ◌≡◌, ℤ, pos, length, get_or, take}
use Rattle.paper.specs.Lists.{nat}
use Rattle.paper.specs.Formula.{formula}
use Rattle.paper.specs.Net.{able}
use Rattle.paper.specs.Tables.{Tables, inputs_of}
use Rattle.paper.proofs.Straight.{order}
use Rattle.paper.specs.Checks.{Sound}
use Rattle.formulas.specs.Inputs.{part_of, inputs}
use Rattle.formulas.specs.Row.{PartFits}
pub use Rattle.rows.specs.Changes.{values_of}

-- the tables are sound, and their chains of inputs end
pub record Ended (t : Tables) : Type 0 where
  pub sound : Sound t
  pub chains : (v : ℕ) → able (inputs_of t) t.n v ≡ true

-- and besides the lent order is build's
pub record Along (t : Tables) (ord : List ℕ) : Type 0 where
  pub sound : Sound t
  pub chains : (v : ℕ) → able (inputs_of t) t.n v ≡ true
  pub long : t.m ≤ length ord
  pub order_is : take t.m ord ≡ order t

-- row r stands in its tables, and its part suits its formula
pub record RowFits (r : ℕ) (kinds : List ℕ) (params : List ℤ) (firsts counts vars : List ℕ) (coefs values : List ℤ) : Type 0 where
  pub in-kinds : r < length kinds
  pub in_params : r < length params
  pub in-firsts : r < length firsts
  pub in-counts : r < length counts
  pub suits : PartFits (nat kinds r) (nat firsts r) (nat counts r) coefs vars values

-- what its formula gives over a row of values
abbrev pub row_gives : ℕ → List ℕ → List ℤ → List ℕ → List ℕ → List ℕ → List ℤ → List ℤ → ℤ
row_gives r kinds params firsts counts vars coefs values =
    formula (nat kinds r) (get_or params r (pos 0)) (part_of (nat firsts r) (nat counts r) coefs) (inputs (part_of (nat firsts r) (nat counts r) vars) values)

-- both over the rows of lent tables
abbrev pub RowFitsIn : Tables → ℕ → List ℤ → Type 0
RowFitsIn t r = RowFits r t.kinds t.params t.firsts t.counts t.vars t.coefs

abbrev pub row_gives_in : Tables → ℕ → List ℤ → ℤ
row_gives_in t r = row_gives r t.kinds t.params t.firsts t.counts t.vars t.coefs
