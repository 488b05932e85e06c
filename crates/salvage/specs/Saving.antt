-- What the functions that keep start values and save rely on, and what they leave. Assumes nothing.
use Rattle.std.specs.Prelude.{ℕ, suc, ◌<◌, Bool, false, not, List, ◌≡◌, eqb, leb, ℤ, pos, get_or, take}
use Rattle.paper.specs.Checks.{accepted, by_lines}
use Rattle.paper.specs.File.{version1, rows_from, m_in, head_lines}
use Rattle.paper.specs.Lists.{nat}
use Rattle.paper.specs.Tables.{Tables}
use Rattle.damage.specs.Starts.{start_test}
use Rattle.damage.specs.Saved.{given, start_given, is_saved, start_kept, saved_tables, saved_starts}

-- ── start values ──
-- v's is whole in a file of this size, and is one that build takes, where `by` is the row of makers
abbrev pub start_taken : ℕ → List ℕ → List ℤ → ℕ → Bool
start_taken size by starts v = start_test (leb (rows_from 24 (suc v)) size) (not (eqb (nat by v) 0)) (get_or starts v (pos 0))

-- ── what is to be saved ──
-- what the file gives, and which of its rows stand
pub record Judged (bytes : List ℕ) (t : Tables) (starts : List ℤ) (row : List Bool) : Type 0 where
  pub head : by_lines (head_lines version1 bytes) accepted ≡ accepted
  pub tables : t ≡ given bytes
  pub values : take t.n starts ≡ start_given bytes
  pub standing : (r : ℕ) → r < t.m → get_or row r false ≡ is_saved bytes r

-- the tables saved, and the start values given
pub record Packed (bytes : List ℕ) (m : ℕ) (t : Tables) (starts : List ℤ) (row : List Bool) : Type 0 where
  pub head : by_lines (head_lines version1 bytes) accepted ≡ accepted
  pub rows : m ≡ m_in bytes
  pub tables : t ≡ saved_tables bytes
  pub values : take t.n starts ≡ start_given bytes
  pub standing : (r : ℕ) → r < m → get_or row r false ≡ is_saved bytes r

-- the tables and start values saved
pub record SavedReady (bytes : List ℕ) (m : ℕ) (t : Tables) (starts : List ℤ) (row taken : List Bool) : Type 0 where
  pub head : by_lines (head_lines version1 bytes) accepted ≡ accepted
  pub rows : m ≡ m_in bytes
  pub tables : t ≡ saved_tables bytes
  pub values : starts ≡ saved_starts bytes
  pub standing : (r : ℕ) → r < m → get_or row r false ≡ is_saved bytes r
  pub kept : (v : ℕ) → v < t.n → get_or taken v false ≡ start_kept bytes v
