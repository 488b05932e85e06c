-- What a route is lent beside the tables, and what it leaves, over any stored values. Assumes nothing.
use Rattle.std.specs.Prelude.{ℕ, suc, ◌≤◌, ◌<◌, Bool, true, cond, ◌≡◌, eqb, ℤ, length, set}
use mathlib.Core.List.{List, [], ◌∷◌, Memᴰ}
use Rattle.paper.specs.Lists.{nat, over}
use Rattle.paper.specs.Net.{Values, Route, differs, new, evaluated}
use Rattle.paper.specs.Tables.{Tables, net, is_made, values_in}
use Rattle.routes.specs.Sections.{made_from}
use Rattle.routes.specs.Rows.{values_of, row_gives}

-- the rows are long enough, the trial row begins as the stored one with the move in, which names no made variable, and no flag is set
pub record Begun (t : Tables) (stored trial : List ℤ) (flags : List ℕ) : Type 0 where
  pub in-stored : t.n ≤ length stored
  pub in-trial : t.n ≤ length trial
  pub in-flags : t.n ≤ length flags
  pub made : (v : ℕ) → is_made t v ≡ true → values_in t trial v ≡ values_in t stored v
  pub clear : (v : ℕ) → v < t.n → nat flags v ≡ 0

-- the variables that moved: each that has another value in the trial row than in the stored one is among them
pub record Named (t : Tables) (stored trial : List ℤ) (moves : List ℕ) : Type 0 where
  pub low : (v : ℕ) → Memᴰ v moves → v < t.n
  pub moved : (v : ℕ) → v < t.n → differs (values_in t trial) (values_in t stored) v ≡ true → Memᴰ v moves

module _ (t : Tables) (route : Route) (stored trial : List ℤ) (asked : List ℕ) where
  -- the route's new values, and what it evaluates
  abbrev pub new_of : Values
  new_of = new (net t) route (values_in t stored) (values_in t trial) t.n

  abbrev pub evaluated_of : ℕ → Bool
  evaluated_of = evaluated (net t) route (values_in t stored) (values_in t trial) asked t.n

-- where the route evaluates the new value and 1, and elsewhere what stood there
pub record Routed (t : Tables) (route : Route) (stored trial : List ℤ) (flags asked : List ℕ) (trial' : List ℤ) (flags' : List ℕ) : Type 0 where
  pub values : trial' ≡ over t.n (λ v. cond (evaluated_of t route stored trial asked v) (new_of t route stored trial asked v) (values_in t trial v)) trial
  pub flagged : flags' ≡ over t.n (λ v. cond (evaluated_of t route stored trial asked v) 1 0) flags

-- ── route 1: what changed flags what is made from it ──
-- the flags with a 1 at each of these variables
abbrev pub flag_each : List ℕ → List ℕ → List ℕ
flag_each [] flags = flags
flag_each (u ∷ us) flags = flag_each us (set flags u 1)

module _ (makes starts places : List ℕ) where
  -- the rows that read v stand in the table, and what they make has a flag
  pub record Section (v room : ℕ) : Type 0 where
    pub long : suc v < length starts
    pub inside : nat starts (suc v) ≤ length places
    pub row : (i : ℕ) → nat starts v ≤ i → i < nat starts (suc v) → nat places i < length makes
    pub made : (i : ℕ) → nat starts v ≤ i → i < nat starts (suc v) → nat makes (nat places i) < room

  module _ (stored trial : List ℤ) where
    -- what is made from v is flagged if v has another value in the trial row than in the stored one; and so of each of a list
    abbrev pub pass_on : ℕ → List ℕ → List ℕ
    pass_on v flags = cond (differs (values_of trial) (values_of stored) v) (flag_each (made_from makes starts places v) flags) flags

    abbrev pub pass_each : List ℕ → List ℕ → List ℕ
    pass_each [] flags = flags
    pass_each (v ∷ vs) flags = pass_each vs (pass_on v flags)

    -- each of a list stands in the rows
    pub record Passable (moves : List ℕ) (room : ℕ) : Type 0 where
      pub in-stored : (v : ℕ) → Memᴰ v moves → v < length stored
      pub in-trial : (v : ℕ) → Memᴰ v moves → v < length trial
      pub sections : (v : ℕ) → Memᴰ v moves → Section v room

-- the turn of row r: where the variable that it makes is flagged it has the row's value, and what is made from it is flagged if it changed; else
-- all is as it was
pub record Turned (t : Tables) (starts places : List ℕ) (r : ℕ) (stored trial : List ℤ) (flags : List ℕ) (trial' : List ℤ) (flags' : List ℕ) : Type 0 where
  pub values : trial' ≡ cond (eqb (nat flags (nat t.makes r)) 1)
      (set trial (nat t.makes r) (row_gives r t.kinds t.params t.firsts t.counts t.vars t.coefs trial)) trial
  pub flagged : flags' ≡ cond (eqb (nat flags (nat t.makes r)) 1) (pass_on t.makes starts places stored trial' (nat t.makes r) flags) flags
