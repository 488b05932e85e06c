-- Numbering by visits: what the scratch rows hold. Assumes nothing.
use Rattle.std.specs.Prelude.{ℕ, suc, max, ◌+◌, ◌-◌, ◌≤◌, ◌<◌, Bool, cond, not, ◌||◌, ◌⊎◌, ◌≡◌, Option, None, eqb, leb, length}
use mathlib.Core.List.{List, [], ◌∷◌, Memᴰ}
use Rattle.std.proofs.Math.Seq.{slice}
use Rattle.integers.specs.Below.{if_below}
use Rattle.paper.specs.Lists.{nat, size, first_fail}
use Rattle.paper.proofs.Straight.{number}
use Rattle.paper.specs.Tables.{Tables, part, net, ends}

-- a row of zeros, at least n long
pub record Clean (n : ℕ) (row : List ℕ) : Type 0 where
  pub long : n ≤ length row
  pub at : (i : ℕ) → nat row i ≡ 0

-- the least number above those of all entries; 0 for none
abbrev pub above : (ℕ → ℕ) → List ℕ → ℕ
above f [] = 0
above f (x ∷ xs) = max (suc (f x)) (above f xs)

-- check 8 of the numbers: that of a search variable is 0, and that of what row r makes the least above its inputs'
abbrev pub searched_right : List ℕ → List ℕ → ℕ → Bool
searched_right by nums v = not (eqb (nat by v) 0) || eqb (nat nums v) 0

abbrev pub made_right : Tables → List ℕ → ℕ → Bool
made_right t nums r = eqb (nat nums (nat t.makes r)) (above (nat nums) (part t r t.vars))

-- what the maker's row has in a column, 0 without a maker; and where its part stops
abbrev pub of_maker : ℕ → List ℕ → ℕ
of_maker maker column = cond (eqb maker 0) 0 (nat column (maker - 1))

abbrev pub stop_of : List ℕ → List ℕ → ℕ → ℕ
stop_of firsts counts maker = of_maker maker firsts + of_maker maker counts

-- ── each variable's part of the entries, in two rows: where it begins and where it stops ──
abbrev pub part_at : List ℕ → List ℕ → List ℕ → ℕ → List ℕ
part_at begins stops vars v = slice (nat begins v) (nat stops v) vars

-- each maker is a row of both columns, and its part stops within the most entries that tables have
pub record Columns (n : ℕ) (by firsts counts : List ℕ) : Type 0 where
  pub few : n ≤ 4096
  pub long : n ≤ length by
  pub first : (v : ℕ) → v < n → nat by v ≤ length firsts
  pub count : (v : ℕ) → v < n → nat by v ≤ length counts
  pub small : (v : ℕ) → v < n → stop_of firsts counts (nat by v) ≤ 16384

-- the parts lie inside the entries, and hold variables
pub record Parted (n : ℕ) (begins stops vars : List ℕ) : Type 0 where
  pub few : n ≤ 4096
  pub inside : (v : ℕ) → nat stops v ≤ length vars
  pub below : (v i : ℕ) → Memᴰ i (part_at begins stops vars v) → i < n

-- ── the state of a variable: 0 before its visit, 1 once that has begun, and its number and 2 once that has ended ──
abbrev pub unvisited : List ℕ → ℕ → Bool
unvisited state v = eqb (nat state v) 0

abbrev pub ended : List ℕ → ℕ → Bool
ended state v = leb 2 (nat state v)

abbrev pub number_in : List ℕ → ℕ → ℕ
number_in state v = nat state v - 2

-- a search variable, which has no maker, has ended with number 0
abbrev pub search_state : ℕ → ℕ
search_state maker = cond (eqb maker 0) 2 0

-- dep gives the inputs
module _ (n : ℕ) (dep : ℕ → List ℕ) where
  -- what has ended has its number, and so have its inputs
  pub record NumbersRight (state : List ℕ) : Type 0 where
    pub long : n ≤ length state
    pub number : (u : ℕ) → 2 ≤ nat state u → nat state u ≡ 2 + above (number_in state) (dep u)
    pub inputs : (u : ℕ) → 2 ≤ nat state u → (i : ℕ) → Memᴰ i (dep u) → 2 ≤ nat state i
    pub small : (u : ℕ) → 2 ≤ nat state u → nat state u < 2 + size (ended state) n

  -- the visit of some input of u has begun and not ended
  abbrev pub InputBegun : List ℕ → ℕ → Type 0
  InputBegun state u = (i : ℕ) × Memᴰ i (dep u) × (nat state i ≡ 1)

  -- a visit of v, which found r: what had begun is as it was, and what it began and did not end waits on an input
  pub record NumberVisit (v : ℕ) (before after : List ℕ) (r : ℕ) : Type 0 where
    pub right : NumbersRight after
    pub kept : (u : ℕ) → 0 < nat before u → nat after u ≡ nat before u
    pub is : r ≡ nat after v
    pub begun : 0 < r
    pub stuck : (u : ℕ) → nat after u ≡ 1 → (nat before u ≡ 1) ⊎ ((r ≡ 1) × InputBegun after u)

  -- the variables below v have been visited
  pub record NumberedBelow (v : ℕ) (state : List ℕ) : Type 0 where
    pub right : NumbersRight state
    pub begun : (u : ℕ) → u < v → 0 < nat state u
    pub held : (u : ℕ) → nat state u ≡ 1 → InputBegun state u

-- ── found ──
-- the row holds two more than each variable's number
pub record Numbered (t : Tables) (state : List ℕ) : Type 0 where
  pub few : t.n ≤ 4096
  pub at : (v : ℕ) → v < t.n → nat state v ≡ 2 + number (net t) t.n v

-- r is the least variable that can have no number, or none; with none the row holds the numbers; what has ended is what can have one
pub record NumbersFound (t : Tables) (state : List ℕ) (r : Option ℕ) : Type 0 where
  pub least : r ≡ if_below t.n (first_fail (ends t) t.n)
  pub which : (v : ℕ) → v < t.n → ends t v ≡ ended state v
  pub numbered : r ≡ None → Numbered t state
