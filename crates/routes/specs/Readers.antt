-- What is made from each variable, by an index of readers: the rows that read v stand among the places from its start to the next one's, and
-- `makes` has the variable that each row makes. One start more than there are variables. Assumes nothing.
use Rattle.std.specs.Prelude.{ℕ, suc, ◌-◌, ◌≤◌, ◌<◌, true, ◌≡◌, eqb, ℤ, pos, length}
use mathlib.Core.List.{List, [], Memᴰ}
use Rattle.paper.specs.Lists.{any, nat, those}
use Rattle.paper.specs.Net.{Net, able, differs}
use Rattle.paper.proofs.Straight.{number}
use Rattle.rows.specs.Changes.{values_of}
use Rattle.routes.specs.Sections.{section, made_from}
use Rattle.routes.specs.Reach.{Closed}

-- how many variables there are
abbrev pub variables : List ℕ → ℕ
variables starts = length starts - 1

module _ (makes starts places : List ℕ) where
  -- the variables that x is made from
  unfoldable pub read_from : ℕ → List ℕ
  read_from x = those (λ v. any (eqb x) (made_from makes starts places v)) (variables starts)

  -- the model that the index shows: who is made from whom
  unfoldable pub index_net : Net
  index_net = record { made = λ x. any (λ v. true) (read_from x); ins = read_from; form = λ x f. pos 0; asks = λ x f. [] }

  -- how far the topological number of v stands below the greatest that there may be
  unfoldable pub distance : ℕ → ℕ
  distance v = variables starts - number index_net (variables starts) v

  -- the index leads to rows and these to variables, and what a variable is made from ends
  pub record Upward : Type 0 where
    pub inside : (v : ℕ) → suc v < length starts → nat starts (suc v) ≤ length places
    pub row : (v r : ℕ) → Memᴰ r (section starts places v) → r < length makes
    pub below : (v r : ℕ) → Memᴰ r (section starts places v) → suc (nat makes r) < length starts
    pub ends : (v : ℕ) → able read_from (variables starts) v ≡ true

  -- there is room for the marks, and what is made from what is marked is marked
  pub record Markable (marks : List ℕ) : Type 0 where
    pub room : length starts ≤ suc (length marks)
    pub closed : Closed (λ u. true) (made_from makes starts places) marks

-- ── what moved ──
-- the named variables stand below the last start, and both rows have room for all
pub record Movable (starts moves : List ℕ) (stored trial : List ℤ) : Type 0 where
  pub low : (v : ℕ) → Memᴰ v moves → suc v < length starts
  pub in-stored : length starts ≤ suc (length stored)
  pub in-trial : length starts ≤ suc (length trial)

-- a named variable has another value in the trial row than in the stored one
abbrev pub Moved : List ℕ → List ℤ → List ℤ → ℕ → Type 0
Moved moves stored trial v = Memᴰ v moves × (differs (values_of trial) (values_of stored) v ≡ true)

abbrev pub none : ℕ → Type 0
none v = ⊥
