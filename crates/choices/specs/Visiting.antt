-- The walk that follows the choices: what the rows of values and states hold before, during and after a visit. Assumes nothing.
use Rattle.std.specs.Prelude.{ℕ, suc, ◌≤◌, ◌<◌, Bool, true, ◌⊎◌, ◌≡◌, eqb, ltb, ℤ, length}
use mathlib.Core.List.{List, Memᴰ}
use Rattle.paper.specs.Lists.{all, nat, size}
use Rattle.paper.specs.Net.{Values, Net, able}
use Rattle.paper.specs.Tables.{Tables, part}
use Rattle.routes.specs.Rows.{values_of, RowFits}

-- the row that makes a variable has room for what it names, and names variables
pub record PartsLent (t : Tables) (by : List ℕ) : Type 0 where
  pub few : length by ≤ 4096
  pub fits : (v r : ℕ) → nat by v ≡ suc r → (values : List ℤ) → length by ≤ length values
      → RowFits r t.kinds t.params t.firsts t.counts t.vars t.coefs values
  pub inputs : (v r : ℕ) → nat by v ≡ suc r → all (λ u. ltb u (length by)) (part t r t.vars) ≡ true

-- ── the state of a variable: 0 before its visit, 1 once that has begun, and 2 once its value stands ──
abbrev pub unbegun : List ℕ → ℕ → Bool
unbegun states v = eqb (nat states v) 0

abbrev pub value_stands : List ℕ → ℕ → Bool
value_stands states v = eqb (nat states v) 2

-- values that are those of the row where these stand
abbrev pub Agrees : List ℤ → List ℕ → Values → Type 0
Agrees values states g = (w : ℕ) → nat states w ≡ 2 → g w ≡ values_of values w

module _ (N : Net) (n : ℕ) where
  -- a value that stands is what its formula gives; what the formula looks at stands too, and chains of it end
  pub record ValuesRight (values : List ℤ) (states : List ℕ) : Type 0 where
    pub in-values : n ≤ length values
    pub in-states : n ≤ length states
    pub most : (u : ℕ) → nat states u ≤ 2
    pub below : (u : ℕ) → nat states u ≡ 2 → u < n
    pub value : (u : ℕ) → nat states u ≡ 2 → N.made u ≡ true → values_of values u ≡ N.form u (values_of values)
    pub asked : (u : ℕ) → nat states u ≡ 2 → (i : ℕ) → Memᴰ i (N.asks u (values_of values)) → nat states i ≡ 2
    pub ends : (u : ℕ) → nat states u ≡ 2 → able (λ w. N.asks w (values_of values)) (size (value_stands states) n) u ≡ true

  -- whatever the values that do not stand yet, the formula of u looks at a variable whose visit has begun and whose value does not stand
  pub record Held (values : List ℤ) (states : List ℕ) (u : ℕ) : Type 0 where
    pub on : ℕ
    pub waits : nat states on ≡ 1
    pub looks : (g : Values) → Agrees values states g → Memᴰ on (N.asks u g)

  -- on the way what had begun is as it was, and a value is new only where a made variable's came to stand
  pub record Onward (values : List ℤ) (states : List ℕ) (values' : List ℤ) (states' : List ℕ) : Type 0 where
    pub kept : (u : ℕ) → 0 < nat states u → nat states' u ≡ nat states u
    pub still : (u : ℕ) → (values_of values' u ≡ values_of values u) ⊎ ((nat states u ≡ 0) × (nat states' u ≡ 2) × (N.made u ≡ true))
    pub long : length values' ≡ length values

  -- a visit of v, which found r: what it began and does not stand is held
  pub record Visited (v : ℕ) (values : List ℤ) (states : List ℕ) (values' : List ℤ) (states' : List ℕ) (r : ℕ) : Type 0 where
    pub right : ValuesRight values' states'
    pub onward : Onward values states values' states'
    pub is : r ≡ nat states' v
    pub begun : 0 < r
    pub stuck : (u : ℕ) → nat states' u ≡ 1 → (nat states u ≡ 1) ⊎ ((r ≡ 1) × Held values' states' u)
