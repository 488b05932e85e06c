-- The tables that the index of readers depends on, and what code may rely on of them and of the index. Assumes nothing.
use Rattle.std.specs.Prelude.{ℕ, suc, ◌≤◌, ◌<◌, List, [], ◌≡◌, length, take}
use Rattle.std.proofs.Math.Seq.{slice}
use Rattle.paper.specs.Lists.{nat, total}
use Rattle.paper.specs.Tables.{Tables, lent, readers}
use Rattle.tables.specs.declared.lent.Tables as code-tables

-- only the rows' parts and the variables of the entries play a part
abbrev pub entries_only : ℕ → ℕ → ℕ → List ℕ → List ℕ → List ℕ → Tables
entries_only n m e firsts counts vars = lent n m e [] [] [] firsts counts vars []

abbrev pub entries_lent : code-tables.Tables → Tables
entries_lent t = entries_only t.n t.m t.e t.firsts.now t.counts.now t.vars.now

-- the rows' parts follow one another up to e, and every entry names a variable
pub record EntriesLaid (t : Tables) : Type 0 where
  pub few : t.n ≤ 4096
  pub rows : t.m ≤ t.n
  pub small : t.e ≤ 16384
  pub firsts : t.m ≤ length t.firsts
  pub counts : t.m ≤ length t.counts
  pub vars : t.e ≤ length t.vars
  pub first : (r : ℕ) → r < t.m → nat t.firsts r ≡ total (take r t.counts)
  pub whole : total (take t.m t.counts) ≡ t.e
  pub low : (i : ℕ) → i < t.e → nat t.vars i < t.n

-- the lent index is build's: the rows that read a variable stand from its start to the next one's
pub record Indexed (t : Tables) (starts places : List ℕ) : Type 0 where
  pub long : suc t.n ≤ length starts
  pub rise : (v : ℕ) → v < t.n → nat starts v ≤ nat starts (suc v)
  pub inside : (v : ℕ) → v < t.n → nat starts (suc v) ≤ length places
  pub at : (v : ℕ) → v < t.n → slice (nat starts v) (nat starts (suc v)) places ≡ readers t v
