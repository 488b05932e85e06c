-- The rows that are read, of tables as the code is lent them. Assumes nothing.
use Rattle.std.specs.Prelude.{ℕ, List, ℤ}
use Rattle.tables.specs.declared.lent.Tables as code
use Rattle.whys.specs.Rows.{RowReads, row_shown, Reads, AllRead, current_by, blank_by}

module _ (t : code.Tables) (values : List ℤ) where
  -- row r can be read
  abbrev pub row_reads : ℕ → Type 0
  row_reads r = RowReads r t.kinds.now t.firsts.now t.counts.now t.vars.now values

  -- the reason of a value of row r
  abbrev pub reason_in : ℕ → ℤ → ℕ
  reason_in = row_shown t.kinds.now t.firsts.now t.counts.now t.vars.now values

  module _ (by : List ℕ) where
    -- variable v and the row that makes it can be read, or all below n
    abbrev pub reads : ℕ → Type 0
    reads = Reads t.kinds.now t.firsts.now t.counts.now t.vars.now values by

    abbrev pub all_read : ℕ → Type 0
    all_read = AllRead t.kinds.now t.firsts.now t.counts.now t.vars.now values by

    -- the reason of v if its flag is 1, or if it is blank too, else the stored one
    abbrev pub reason_now : List ℕ → ℕ → ℕ → ℕ
    reason_now = current_by t.kinds.now t.firsts.now t.counts.now t.vars.now values by

    abbrev pub blank_now : List ℕ → ℕ → ℕ → ℕ
    blank_now = blank_by t.kinds.now t.firsts.now t.counts.now t.vars.now values by
