-- The checks on tables, bounds and moves, and what passed ones say. Assumes nothing.
use Rattle.std.specs.Prelude.{ℕ, suc, pred, ◌+◌, ◌<◌, Bool, true, cond, not, ◌&&◌, ◌||◌, List, [], ◌∷◌, ◌++◌, ◌≡◌, ℤ, pos, negsuc, nat_abs, eqb, leb, ltb, length, get_or, take}
use Rattle.std.specs.Int.Signed.{le_z}
use Rattle.integers.specs.Integers.{eq_z}
use Rattle.paper.specs.Lists.{any, all, every, between, total, nat, first_fail, joined, all_below, below}
use Rattle.paper.specs.Formula.{blank, in_range}
use Rattle.paper.specs.Net.{Values, moved}
use Rattle.paper.specs.Tables.{Tables, Index, part, is_made, readers, readers_start}
use Rattle.paper.specs.Chains.{determined, stored_fresh}

pub data Verdict : Type 0 where
  accepted : Verdict
  -- the number and the place
  refused : ℕ → ℕ → Verdict

-- one check over the whole input, before the next is looked at: the place is the least below the bound that is not good
abbrev pub check : ℕ → ℕ → (ℕ → Bool) → Verdict → Verdict
check code bound good next = cond (ltb (first_fail good bound) bound) (refused code (first_fail good bound)) next

-- one check with a fixed place
abbrev pub require : ℕ → ℕ → Bool → Verdict → Verdict
require code place good next = cond good next (refused code place)

-- a line of the table of refusals: a number with a test of each place below a bound, or with one test and a fixed place
pub data Line : Type 0 where
  places : (number bound : ℕ) (good : ℕ → Bool) → Line
  whole : (number place : ℕ) (good : Bool) → Line

-- the checks of these lines in their order, and then what is next
abbrev pub by_lines : List Line → Verdict → Verdict
by_lines [] next = next
by_lines (places number bound good ∷ rest) next = check number bound good (by_lines rest next)
by_lines (whole number place good ∷ rest) next = require number place good (by_lines rest next)

-- what an accepted call leaves, and what a refused one does
abbrev pub leaves : {A : Type 0} → Verdict → A → A → A
leaves accepted after before = after
leaves (refused number place) after before = before

-- ── bounds on what may be moved: the lowest and the highest allowed number of each variable ──
pub record Bounds : Type 0 where
  pub lows : List ℤ
  pub highs : List ℤ

abbrev pub bounds_in : List ℤ → List ℤ → Bounds
bounds_in lows highs = record { lows = lows; highs = highs }

-- the full range
abbrev pub lowest : ℤ
lowest = negsuc 2147483646

abbrev pub highest : ℤ
highest = pos 2147483647

-- both inside the value range, and the lowest not above the highest; a made variable's are full
abbrev pub bound_good : Bool → ℤ → ℤ → Bool
bound_good made low high = cond made (eq_z low lowest && eq_z high highest) (every (in_range low ∷ in_range high ∷ le_z low high ∷ []))

module _ (b : Bounds) where
  abbrev pub low : ℕ → ℤ
  low v = get_or b.lows v (pos 0)

  abbrev pub high : ℕ → ℤ
  high v = get_or b.highs v (pos 0)

  -- a number that variable v may have
  abbrev pub within : ℕ → ℤ → Bool
  within v x = le_z (low v) x && le_z x (high v)

-- how many inputs a kind takes
abbrev pub arity : ℕ → ℕ → Bool
arity kind count = between (cond (eqb kind 4) 2 1) count 256 && (not (eqb kind 7) || eqb count 2) && (not (eqb kind 8 || eqb kind 9) || eqb count 3)

module _ (t : Tables) where
  -- 1: the counts are within their bounds, and no table is shorter than they ask
  abbrev pub sized : Bool
  sized = every (
      between 1 t.n 4096 ∷ leb t.m t.n ∷ leb t.e 16384
      ∷ leb t.m (length t.kinds) ∷ leb t.m (length t.makes) ∷ leb t.m (length t.params) ∷ leb t.m (length t.firsts) ∷ leb t.m (length t.counts)
      ∷ leb t.e (length t.vars) ∷ leb t.e (length t.coefs) ∷ [])

  -- 2: the kind is 1 to 9
  abbrev pub kind_good : ℕ → Bool
  kind_good r = between 1 (nat t.kinds r) 9

  -- 3: variables below n, a count that suits the kind, and the part begins where those before it end, and ends within e
  abbrev pub shape_good : ℕ → Bool
  shape_good r = every (
      ltb (nat t.makes r) t.n ∷ all (λ v. ltb v t.n) (part t r t.vars) ∷ arity (nat t.kinds r) (nat t.counts r)
      ∷ eqb (nat t.firsts r) (total (take r t.counts)) ∷ leb (nat t.firsts r + nat t.counts r) t.e ∷ [])

  -- 4: coefficients and parameter suit the kind
  abbrev pub number_good : ℕ → Bool
  number_good r =
      let kind = nat t.kinds r in let param = get_or t.params r (pos 0) in
      cond (eqb kind 1) (all (λ c. leb (nat_abs c) 1000) (part t r t.coefs)) (all (λ c. eq_z c (pos 1)) (part t r t.coefs))
      && cond (eqb kind 1 || eqb kind 6) (leb (nat_abs param) 1000000000) (eq_z param (pos 0))

  -- 5: no earlier row makes the variable
  abbrev pub made_once : ℕ → Bool
  made_once r = not (any (eqb (nat t.makes r)) (take r t.makes))

  -- 2 to 4, of the rows
  abbrev pub row_lines : List Line
  row_lines =
      places 2 t.m kind_good ∷ places 3 t.m shape_good ∷ whole 3 (pred t.m) (eqb (total (take t.m t.counts)) t.e)
      ∷ places 4 t.m number_good ∷ []

  -- 4, of the bounds: each pair as said, and full at a variable that some row makes
  abbrev pub bounds_good : Bounds → ℕ → Bool
  bounds_good b v = bound_good (is_made t v) (low b v) (high b v)

  -- 2 to 5, the same for every call
  abbrev pub table_lines : Bounds → List Line
  table_lines b = row_lines ++ (places 4 t.n (bounds_good b) ∷ places 5 t.m made_once ∷ [])

  -- 7 in build: a search variable is not blank, a made one starts at 0
  abbrev pub start_good : Values → ℕ → Bool
  start_good s v = cond (is_made t v) (eq_z (s v) (pos 0)) (not (eq_z (s v) blank))

  -- 7 in trial and keep: a search variable is not blank
  abbrev pub stored_good : Values → ℕ → Bool
  stored_good old v = is_made t v || not (eq_z (old v) blank)

  -- 7: a search variable's value lies within its bounds
  abbrev pub in_bounds : Bounds → Values → ℕ → Bool
  in_bounds b s v = is_made t v || within b v (s v)

  -- 7, of one variable
  abbrev pub start_allowed : Bounds → Values → ℕ → Bool
  start_allowed b s v = start_good s v && in_bounds b s v

  abbrev pub stored_allowed : Bounds → Values → ℕ → Bool
  stored_allowed b old v = stored_good old v && in_bounds b old v

  -- 8: the lent index is what build gives, as far as build fills it
  abbrev pub indexed : Index → Bool
  indexed x =
      every (
      all_below (λ v. eqb (nat x.starts v) (readers_start t v)) (suc t.n)
      ∷ all_below (λ i. eqb (nat x.places i) (nat (joined (readers t) t.n) i)) (readers_start t t.n) ∷ [])

-- ── a move: the variables and the new values of its pairs ──
pub record Move : Type 0 where
  pub pairs : ℕ
  pub vars : List ℕ
  pub values : List ℤ

module _ (mv : Move) where
  -- the pairs, and nothing of the lent rows beyond them
  abbrev pub pairs_of_move : List (ℕ × ℤ)
  pairs_of_move = below (λ i. (nat mv.vars i, get_or mv.values i (pos 0))) mv.pairs

  -- 1: at most 64 pairs, all of them lent
  abbrev pub move_fits : Bool
  move_fits = every (leb mv.pairs 64 ∷ leb mv.pairs (length mv.vars) ∷ leb mv.pairs (length mv.values) ∷ [])

  -- 10: the pair names a search variable
  abbrev pub movable : Tables → ℕ → Bool
  movable t i = ltb (nat mv.vars i) t.n && not (is_made t (nat mv.vars i))

  -- 11: no earlier pair names it
  abbrev pub named_once : ℕ → Bool
  named_once i = not (any (eqb (nat mv.vars i)) (take i mv.vars))

  -- 12: the new value is not blank
  abbrev pub has_value : ℕ → Bool
  has_value i = not (eq_z (get_or mv.values i (pos 0)) blank)

  -- 17: the new value lies within the variable's bounds
  abbrev pub pair_within : Bounds → ℕ → Bool
  pair_within b i = within b (nat mv.vars i) (get_or mv.values i (pos 0))

  -- 10 to 12 and 17
  abbrev pub move_lines : Tables → Bounds → List Line
  move_lines t b = places 10 mv.pairs (movable t) ∷ places 11 mv.pairs named_once ∷ places 12 mv.pairs has_value ∷ places 17 mv.pairs (pair_within b) ∷ []

  -- 21, of stored values `old`, and then 20, of the search variables' new ones
  abbrev pub fresh_lines : Tables → Values → List Line
  fresh_lines t old = places 21 t.n (stored_fresh t old) ∷ places 20 t.n (determined t (moved pairs_of_move old)) ∷ []

-- ── checks 1 to 5 are passed: what code may rely on ──
pub record Sound (t : Tables) : Type 0 where
  pub sized : sized t ≡ true
  pub kinds : (r : ℕ) → r < t.m → kind_good t r ≡ true
  pub shapes : (r : ℕ) → r < t.m → shape_good t r ≡ true
  pub whole : eqb (total (take t.m t.counts)) t.e ≡ true
  pub numbers : (r : ℕ) → r < t.m → number_good t r ≡ true
  pub once : (r : ℕ) → r < t.m → made_once t r ≡ true
