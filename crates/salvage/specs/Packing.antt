-- What the functions that pack and number rows rely on, and what they leave. Assumes nothing.
use Rattle.std.specs.Prelude.{ℕ, ◌+◌, ◌≤◌, ◌<◌, Bool, true, false, List, map, ◌≡◌, length, get_or, take, drop}
use Rattle.paper.specs.Lists.{nat, total}
use Rattle.paper.specs.Tables.{Tables, ends}
use Rattle.order.specs.Formed.{bare, Formed}
use Rattle.order.specs.Numbering.{ended}
use Rattle.damage.specs.Saved.{packed}
use Rattle.damage.specs.Flags.{flagged}
use Rattle.tables.specs.declared.lent.Tables as code-tables

-- ── packing ──
-- the part of an entry list that row r names
abbrev pub part_of_row : {A : Type 0} → List ℕ → List ℕ → List A → ℕ → List A
part_of_row firsts counts entries r = take (nat counts r) (drop (nat firsts r) entries)

-- these are rows of both columns, with parts inside so many entries, and all together they have no more than tables may have
pub record Packable (firsts counts : List ℕ) (entries : ℕ) (rows : List ℕ) : Type 0 where
  pub few : length rows ≤ 4096
  pub first : (i : ℕ) → i < length rows → nat rows i < length firsts
  pub count : (i : ℕ) → i < length rows → nat rows i < length counts
  pub inside : (i : ℕ) → i < length rows → nat firsts (nat rows i) + nat counts (nat rows i) ≤ entries
  pub small : total (map (nat counts) rows) ≤ 16384

-- the columns that numbers depend on hold these rows of the tables packed, and e is how many entries they have
pub record Shaped (t : Tables) (rows : List ℕ) (makes firsts counts vars : List ℕ) (e : ℕ) : Type 0 where
  pub made : take (length rows) makes ≡ (packed t rows).makes
  pub first : take (length rows) firsts ≡ (packed t rows).firsts
  pub count : take (length rows) counts ≡ (packed t rows).counts
  pub read : take e vars ≡ (packed t rows).vars
  pub entries : e ≡ (packed t rows).e

-- the tables of these rows as far as numbers depend on them
abbrev pub shape : ℕ → List ℕ → List ℕ → List ℕ → List ℕ → List ℕ → Tables
shape n makes firsts counts vars rows = let p = packed (bare n 0 makes firsts counts vars) rows in bare n p.m p.makes p.firsts p.counts p.vars

-- the same of lent tables
abbrev pub bare_part : code-tables.Tables → Tables
bare_part t = bare 0 0 t.makes.now t.firsts.now t.counts.now t.vars.now

abbrev pub shape_of : code-tables.Tables → List ℕ → Tables
shape_of t = shape t.n t.makes.now t.firsts.now t.counts.now t.vars.now

-- ── dropping ──
-- the row of states says which variables can have a number
pub record Known (t : Tables) (state : List ℕ) : Type 0 where
  pub at : (v : ℕ) → v < t.n → ends t v ≡ ended state v

-- what a flagged row makes is a variable
pub record Makes (n m : ℕ) (makes : List ℕ) (row : List Bool) : Type 0 where
  pub at : (r : ℕ) → r < m → get_or row r false ≡ true → nat makes r < n

-- the flagged rows can be packed, and numbered
pub record Numberable (n m : ℕ) (makes firsts counts vars : List ℕ) (row : List Bool) : Type 0 where
  pub most : m ≤ 4096
  pub rows : m ≤ length row
  pub made : m ≤ length makes
  pub packable : Packable firsts counts (length vars) (flagged true row m)
  pub formed : Formed (shape n makes firsts counts vars (flagged true row m))
  pub variable : Makes n m makes row

abbrev pub CanBeNumbered : code-tables.Tables → List Bool → Type 0
CanBeNumbered t = Numberable t.n t.m t.makes.now t.firsts.now t.counts.now t.vars.now
