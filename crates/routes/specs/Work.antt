-- Routes 2 and 3 as one walk over a row of work: 1 plus the row that makes a variable where the route works it out, and 0 where its value
-- stands already. Assumes nothing.
use Rattle.std.specs.Prelude.{ℕ, zero, suc, ◌-◌, ◌≤◌, ◌<◌, Bool, true, false, cond, ◌≡◌, eqb, ltb, ℤ, pos, length, get_or, take, drop}
use mathlib.Core.List.{List, [], map, Memᴰ}
use Rattle.paper.specs.Lists.{all, nat}
use Rattle.paper.specs.Formula.{formula, looked, element_looks}
use Rattle.paper.specs.Net.{Values, Net, able, afresh}
use Rattle.paper.proofs.Straight.{number}
use Rattle.paper.specs.Tables.{Tables, lent, part}
use Rattle.tables.specs.declared.lent.Tables as code-tables
use Rattle.routes.specs.Reach.{Closed, Reached, Reaching}
use Rattle.routes.specs.Rows.{values_of, RowFits}

-- the rows and entries that the walk reads of the tables
abbrev pub rows : List ℕ → List ℤ → List ℕ → List ℕ → List ℕ → List ℤ → Tables
rows kinds params firsts counts vars coefs = lent 0 0 0 kinds [] params firsts counts vars coefs

abbrev pub rows_lent : code-tables.Tables → Tables
rows_lent t = rows t.kinds.now t.params.now t.firsts.now t.counts.now t.vars.now t.coefs.now

-- ── the model of what is to be worked out ──
-- by an entry of the row of work
abbrev pub by_row : {A : Type 0} → A → (ℕ → A) → ℕ → A
by_row none of zero = none
by_row none of (suc r) = of r

-- every variable without work stands as a search variable does
unfoldable pub work_net : Tables → List ℕ → Net
work_net t work = record {
  made = λ v. by_row false (λ r. true) (nat work v);
  ins = λ v. by_row [] (λ r. part t r t.vars) (nat work v);
  form = λ v f. by_row (pos 0) (λ r. formula (nat t.kinds r) (get_or t.params r (pos 0)) (part t r t.coefs) (map f (part t r t.vars))) (nat work v);
  asks = λ v f. by_row [] (λ r. looked (nat t.kinds r) f (part t r t.vars)) (nat work v);
}

module _ (t : Tables) (work : List ℕ) where
  -- the topological number of v in it, which falls from call to call
  unfoldable pub depth : ℕ → ℕ
  depth v = number (work_net t work) (length work) v

  -- there is work to do for v
  abbrev pub works_out : ℕ → Bool
  works_out = (work_net t work).made

  -- the rows have room for what they name, and chains end
  pub record RowsWorkable : Type 0 where
    pub chains : (v : ℕ) → able (work_net t work).ins (length work) v ≡ true
    pub fits : (v r : ℕ) → nat work v ≡ suc r → (values : List ℤ) → length work ≤ length values
        → RowFits r t.kinds t.params t.firsts t.counts t.vars t.coefs values
    pub some : (v r : ℕ) → nat work v ≡ suc r → 0 < nat t.counts r
    pub inputs : (v r : ℕ) → nat work v ≡ suc r → all (λ u. ltb u (length work)) (part t r t.vars) ≡ true

  -- the values that come out, where those without work are as the trial row has them
  unfoldable pub worked_out : List ℤ → Values
  worked_out trial = afresh (work_net t work) (values_of trial) (length work)

  -- what the row of v asks over them
  abbrev pub asks_out : List ℤ → ℕ → List ℕ
  asks_out trial v = (work_net t work).asks v (worked_out trial)

  -- flagged or without work, u has its value in the row
  pub record Holds (start : List ℤ) (flags : List ℕ) (trial : List ℤ) : Type 0 where
    pub at : (u : ℕ) → (works_out u ≡ true → nat flags u ≡ 1) → values_of trial u ≡ worked_out start u

  pub record Ready (trial : List ℤ) (flags : List ℕ) : Type 0 where
    pub in-trial : length work ≤ length trial
    pub in-flags : length work ≤ length flags
    pub closed : Closed works_out (asks_out trial) flags
    pub holds : Holds trial flags trial

  -- v has been asked: the flags are those that the walk from v sets, what is flagged has its value, and else the rows are as they were
  pub record Asked (v : ℕ) (trial : List ℤ) (flags : List ℕ) (trial' : List ℤ) (flags' : List ℕ) : Type 0 where
    pub reached : Reached works_out (asks_out trial) v flags flags'
    pub holds : Holds trial flags' trial'
    pub still : (u : ℕ) → nat flags' u ≡ nat flags u → values_of trial' u ≡ values_of trial u
    pub long : length trial' ≡ length trial

  -- so have been all goals but those that are left
  pub record Asking (goal left : ℕ → Type 0) (trial : List ℤ) (flags : List ℕ) (trial' : List ℤ) (flags' : List ℕ) : Type 0 where
    pub reaching : Reaching works_out (asks_out trial) goal left flags flags'
    pub holds : Holds trial flags' trial'
    pub still : (u : ℕ) → nat flags' u ≡ nat flags u → values_of trial' u ≡ values_of trial u
    pub long : length trial' ≡ length trial

  -- every variable of a list has been asked
  abbrev pub AllAsked : List ℕ → List ℤ → List ℕ → List ℤ → List ℕ → Type 0
  AllAsked asked = Asking (λ u. Memᴰ u asked) (λ u. ⊥)

-- ── which places a row asks ──
-- the variables from place i on
abbrev pub entries : List ℕ → ℕ → ℕ → List ℕ
entries vars i last = take (last - i) (drop i vars)

-- those of them that are asked
unfoldable pub asked_from : ℕ → Values → List ℕ → ℕ → ℕ → ℕ → List ℕ
asked_from kind f vars first last i =
    cond (eqb kind 4) (cond (eqb i first) (element_looks f (entries vars i last)) (take 1 (entries vars i last))) (entries vars i last)
