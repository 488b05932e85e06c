-- What looking for a name in a header says, and what reading the header does. Assumes nothing.
use Rattle.std.specs.Prelude.{ℕ, ◌+◌, ◌≤◌, ◌<◌, cond, List, ◌≡◌, eqb, length, drop, IfSome}
use Rattle.frequencies.specs.Csv.{Field, row_of, front, split}
use Rattle.frequencies.specs.Values.{column, named, header_good}
use Rattle.frequencies.specs.Reading.{quotes_good}
use Rattle.frequencies.specs.Reading as reading
use Rattle.frequencies.specs.Scan.{Scannable, fields_behind, rows_from, ForComma, still_to_scan}
use Rattle.frequencies.specs.declared.fields.Place.{Place}
use Rattle.frequencies.specs.declared.fields.Behind.TheVariants.{Comma}
use Rattle.frequencies.specs.declared.header.Named.{Named}
use Rattle.frequencies.specs.declared.header.Header.{Header}
use Rattle.frequencies.specs.declared.rows.Columns.{Columns}

-- a name looked for among these fields, of which some are left
pub record Sought (name : List ℕ) (fs left : List Field) (n : Named) : Type 0 where
  pub times : n.count + named name left ≡ named name fs
  pub place : n.column + cond (eqb n.count 0) (column name left) 0 ≡ column name fs

-- no more were found than places passed
abbrev pub FewFound : List ℕ → Named → Type 0
FewFound bytes n = ForComma n.behind (λ p. Scannable bytes p.at p.line × (n.column ≤ p.at) × (n.count ≤ p.at))

-- one field more
pub record SoughtNext (bytes name : List ℕ) (from : Place) (n r : Named) : Type 0 where
  pub part : (fs : List Field) → Sought name fs (fields_behind bytes n.behind) n → Sought name fs (fields_behind bytes r.behind) r
  pub less : still_to_scan bytes r.behind < still_to_scan bytes (Comma from)
  pub few : FewFound bytes r

-- all of them
pub record Found (bytes : List ℕ) (at line : ℕ) (name : List ℕ) (r : Named) : Type 0 where
  pub times : r.count ≡ named name (row_of (split at line front (drop at bytes))).fields
  pub place : r.column ≡ column name (row_of (split at line front (drop at bytes))).fields

-- columns as the code has them
abbrev pub columns_in : Columns → reading.Columns
columns_in c = record { trip = c.trip; start = c.start; end = c.end; headway = c.headway; exact = c.exact }

-- the header at place `at`, and the rows behind it
pub record Headed (bytes : List ℕ) (at : ℕ) (r : Header) : Type 0 where
  pub columns : columns_in r.columns ≡ reading.columns_of (row_of (split at 1 front (drop at bytes)))
  pub good : r.good ≡ header_good (row_of (split at 1 front (drop at bytes)))
  pub width : r.width ≡ length (row_of (split at 1 front (drop at bytes))).fields
  pub right : r.right ≡ quotes_good (row_of (split at 1 front (drop at bytes)))
  pub rows : (split at 1 front (drop at bytes)).rows ≡ rows_from bytes r.next
  pub here : IfSome r.next (λ p. Scannable bytes p.at p.line)
