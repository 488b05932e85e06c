-- How long the lent rows must be for checks 3 and 4, each as long as the check reads it. Then check 3 of all parts at once, and check 4 as the code
-- takes it, coefficients and parameter each. Assumes nothing.
use Rattle.std.specs.Prelude.{ℕ, ◌≤◌, Bool, cond, ◌&&◌, ◌||◌, List, ℤ, pos, nat_abs, eqb, leb, length, get_or, take, drop}
use Rattle.integers.specs.Integers.{eq_z}
use Rattle.paper.specs.Lists.{all, total, nat, all_below}
use Rattle.paper.specs.Tables.{Tables}

pub record PartsLong (t : Tables) : Type 0 where
  pub kinds : t.m ≤ length t.kinds
  pub firsts : t.m ≤ length t.firsts
  pub counts : t.m ≤ length t.counts

pub record ShapesLong (t : Tables) : Type 0 where
  pub parts : PartsLong t
  pub makes : t.m ≤ length t.makes
  pub vars : t.e ≤ length t.vars

pub record NumbersLong (t : Tables) : Type 0 where
  pub parts : PartsLong t
  pub params : t.m ≤ length t.params

-- check 3 of the parts of m rows: each begins where those before it end, and the last ends within e
abbrev pub parts_good : ℕ → ℕ → List ℕ → List ℕ → Bool
parts_good m e firsts counts = all_below (λ r. eqb (nat firsts r) (total (take r counts))) m && leb (total (take m counts)) e

-- ── check 4, coefficients and parameter each ──
abbrev pub all_small : List ℤ → Bool
all_small part = all (λ c. leb (nat_abs c) 1000) part

abbrev pub all_one : List ℤ → Bool
all_one part = all (λ c. eq_z c (pos 1)) part

abbrev pub coefs_good : ℕ → List ℤ → Bool
coefs_good kind part = cond (eqb kind 1) (all_small part) (all_one part)

abbrev pub param_good : ℕ → ℤ → Bool
param_good kind param = cond (eqb kind 1 || eqb kind 6) (leb (nat_abs param) 1000000000) (eq_z param (pos 0))

-- of m rows
abbrev pub all_coefs_good : ℕ → List ℕ → List ℕ → List ℕ → List ℤ → Bool
all_coefs_good m kinds firsts counts coefs = all_below (λ r. coefs_good (nat kinds r) (take (nat counts r) (drop (nat firsts r) coefs))) m

abbrev pub all_params_good : ℕ → List ℕ → List ℤ → Bool
all_params_good m kinds params = all_below (λ r. param_good (nat kinds r) (get_or params r (pos 0))) m

abbrev pub coefs_suit : Tables → Bool
coefs_suit t = all_coefs_good t.m t.kinds t.firsts t.counts t.coefs
