-- The rows and the entries of lent tables, as the file has them. Assumes nothing.
use Rattle.std.specs.Prelude.{ℕ, ◌≤◌, List, length}
use Rattle.paper.specs.File.{row_bytes, entry_bytes}
use Rattle.tables.specs.declared.lent.Tables.{Tables}

-- no column of the rows is shorter than their number, and none of the entries than theirs
abbrev pub HasRows : Tables → Type 0
HasRows t =
    (t.m ≤ length t.kinds.now) × (t.m ≤ length t.makes.now) × (t.m ≤ length t.params.now) × (t.m ≤ length t.firsts.now) × (t.m ≤ length t.counts.now)

abbrev pub HasEntries : Tables → Type 0
HasEntries t = (t.e ≤ length t.vars.now) × (t.e ≤ length t.coefs.now)

-- the bytes of a row, and of an entry
abbrev pub bytes_of_row : Tables → ℕ → List ℕ
bytes_of_row t = row_bytes t.kinds.now t.makes.now t.params.now t.firsts.now t.counts.now

abbrev pub bytes_of_entry : Tables → ℕ → List ℕ
bytes_of_entry t = entry_bytes t.vars.now t.coefs.now
