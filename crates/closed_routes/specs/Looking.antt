-- The walk along what formulas look at, over a row of work and values that are known already. Assumes nothing.
use Rattle.std.specs.Prelude.{ℕ, suc, ◌+◌, ◌≤◌, ◌<◌, true, ◌≡◌, ltb, ℤ, length}
use mathlib.Core.List.{List, [], Memᴰ}
use Rattle.paper.specs.Lists.{all, nat}
use Rattle.paper.specs.Tables.{Tables}
use Rattle.tables.specs.declared.lent.Tables as code-tables
use Rattle.formulas.specs.Inputs.{part_of}
use Rattle.routes.specs.Reach.{Reaching}
use Rattle.routes.specs.Rows.{values_of}
use Rattle.routes.specs.Work.{rows, work_net, works_out}

-- the rows as the walk reads them: parameters and coefficients play no part
abbrev pub shapes : List ℕ → List ℕ → List ℕ → List ℕ → Tables
shapes kinds firsts counts vars = rows kinds [] firsts counts vars []

abbrev pub shapes_lent : code-tables.Tables → Tables
shapes_lent t = shapes t.kinds.now t.firsts.now t.counts.now t.vars.now

-- the rows of work stand in the tables, and their parts inside the entries; these name variables
pub record Parts (firsts counts vars work : List ℕ) : Type 0 where
  pub in-firsts : (v r : ℕ) → nat work v ≡ suc r → r < length firsts
  pub in-counts : (v r : ℕ) → nat work v ≡ suc r → r < length counts
  pub inside : (v r : ℕ) → nat work v ≡ suc r → nat firsts r + nat counts r ≤ length vars
  pub inputs : (v r : ℕ) → nat work v ≡ suc r → all (λ u. ltb u (length work)) (part_of (nat firsts r) (nat counts r) vars) ≡ true

module _ (t : Tables) (work : List ℕ) (values : List ℤ) where
  -- what the formula of v looks at
  abbrev pub looks_at : ℕ → List ℕ
  looks_at v = (work_net t work).asks v (values_of values)

  -- and besides the rows have a kind, and the variables a value
  pub record Lookable : Type 0 where
    pub parts : Parts t.firsts t.counts t.vars work
    pub in-kinds : (v r : ℕ) → nat work v ≡ suc r → r < length t.kinds
    pub in-values : length work ≤ length values

  -- the flags of all that is worked out and comes of a list
  abbrev pub AllLooked : List ℕ → List ℕ → List ℕ → Type 0
  AllLooked asked = Reaching (works_out t work) looks_at (λ u. Memᴰ u asked) (λ u. ⊥)
