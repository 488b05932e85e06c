-- The tables that numbers and order depend on, and what the functions of this crate rely on. `proofs/Bare` gives both from tables that passed
-- checks 1 to 5. Assumes nothing.
use Rattle.std.specs.Prelude.{ℕ, ◌+◌, ◌≤◌, ◌<◌, true, ◌≡◌, length}
use mathlib.Core.List.{List, [], Memᴰ}
use Rattle.paper.specs.Lists.{nat}
use Rattle.paper.specs.Tables.{Tables, lent, row_of, is_made, inputs_of}
use Rattle.tables.specs.declared.lent.Tables as code-tables

-- kinds, parameters and coefficients play no part
abbrev pub bare : ℕ → ℕ → List ℕ → List ℕ → List ℕ → List ℕ → Tables
bare n m makes firsts counts vars = lent n m 0 [] makes [] firsts counts vars []

abbrev pub bare_lent : code-tables.Tables → Tables
bare_lent t = bare t.n t.m t.makes.now t.firsts.now t.counts.now t.vars.now

pub record Formed (t : Tables) : Type 0 where
  pub some : 0 < t.n
  pub few : t.n ≤ 4096
  pub rows : t.m ≤ t.n
  pub makes : t.m ≤ length t.makes
  pub firsts : t.m ≤ length t.firsts
  pub counts : t.m ≤ length t.counts
  -- each row makes a variable, from one input or more, and its part lies inside the entries
  pub row_makes : (r : ℕ) → r < t.m → nat t.makes r < t.n
  pub row_reads : (r : ℕ) → r < t.m → 1 ≤ nat t.counts r
  pub row_inside : (r : ℕ) → r < t.m → nat t.firsts r + nat t.counts r ≤ length t.vars
  pub row_small : (r : ℕ) → r < t.m → nat t.firsts r + nat t.counts r ≤ 16384
  -- each row is that of the variable which it makes, and the row of a made variable makes it
  pub row-of : (r : ℕ) → r < t.m → row_of t (nat t.makes r) ≡ r
  pub made_by : (v : ℕ) → is_made t v ≡ true → nat t.makes (row_of t v) ≡ v
  -- what is made, and what it is made from, are variables
  pub made-below : (v : ℕ) → is_made t v ≡ true → v < t.n
  pub inputs-below : (v i : ℕ) → Memᴰ i (inputs_of t v) → i < t.n
