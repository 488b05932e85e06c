-- A row field by field: the fields that were scanned are the first of the row's, and what stands in a column is found where its field is scanned.
-- Assumes nothing.
use Prim.Native.Nat.{ℕ, zero, suc, ◌+◌, ◌-◌, ◌≤◌, ◌<◌}
use native.Mathlib.Numerals.{add-one}
use native.Mathlib.Omega.{arith}
use mathlib.Core.Bool.{Bool, true, false, cond, ◌&&◌, false≢true}
use mathlib.Core.List.{List, [], ◌∷◌, ◌++◌}
use mathlib.Core.Path.{◌≡◌, refl, ap, sym, ◌∙◌}
use lib.Dec.{eqb, ltb}
use lib.ListN.{length, get_or, take, drop, length-take, length-drop, get_or-eq_default}
use lib.Seq.{take-suc, take-take, take-nil, take_all, drop-drop, get_or-drop, get_or-take, length-take-le}
use borrow.Author.Tests.{eqb-true, eqb-false, ltb-true, ltb-false}
use Rattle.paper.specs.Lists.{all}
use Rattle.frequencies.specs.Csv.{Field, field, in_quotes, body, quotes_right, Rest, row_of}
use Rattle.frequencies.specs.Scan.{Scannable, FieldScanned, fields_behind, rows_behind, rows_from, row_behind, Beyond, Later, Stands, column_of, scanned_at, Ahead, RowPart, RowScanned, still_to_scan}
use Rattle.std.specs.Prelude.{◌≢◌, IfSome}
use Rattle.frequencies.specs.declared.fields.Place.{Place}
use Rattle.frequencies.specs.declared.fields.Behind.{Behind}
use Rattle.frequencies.specs.declared.fields.Behind.TheVariants.{Comma, Line, File}
use Rattle.frequencies.specs.declared.parts.Span.{Span}
use Rattle.frequencies.specs.declared.fields.FieldScan.{FieldScan}
use Rattle.frequencies.specs.declared.rows.Columns.{Columns}
use Rattle.frequencies.specs.declared.rows.RowScan.{RowScan}

-- ── lists ──
pub drop-one-take : {A : Type 0} (n : ℕ) (l : List A) → drop 1 (take n l) ≡ take (n - 1) (drop 1 l)
drop-one-take zero l = refl
drop-one-take (suc n) [] = sym (take-nil (suc n - 1))
drop-one-take (suc n) (x ∷ l) = let z : suc n - 1 ≡ n = omega arith in rw z refl

pub all_append : {A : Type 0} (p : A → Bool) (xs ys : List A) → all p (xs ++ ys) ≡ (all p xs && all p ys)
all_append p [] ys = refl
all_append p (x ∷ xs) ys = ap (p x &&◌) (all_append p xs ys) ∙ and-on (p x) (all p xs) (all p ys)
  where
    and-on : (a b c : Bool) → (a && (b && c)) ≡ ((a && b) && c)
    and-on true b c = refl
    and-on false b c = refl

-- with one entry more of a list, column k is the new entry or what it was
pub get_d-one-more : {A : Type 0} (l : List A) (k c : ℕ) (d : A) → k < length l → get_or (take (k + 1) l) c d ≡ cond (eqb k c) (get_or l k d) (get_or (take k l) c d)
get_d-one-more l k c d h = go (eqb k c) refl
  where
    go : (b : Bool) → eqb k c ≡ b → get_or (take (k + 1) l) c d ≡ cond b (get_or l k d) (get_or (take k l) c d)
    go true e = rw (← eqb-true k c e) (get_or-take (k + 1) l k d (omega arith))
    go false e = below (ltb c k) refl
      where
        below : (b : Bool) → ltb c k ≡ b → get_or (take (k + 1) l) c d ≡ get_or (take k l) c d
        below true q = let u = ltb-true c k q in get_or-take (k + 1) l c d (omega arith) ∙ sym (get_or-take k l c d u)
        below false q =
            let u = ltb-false c k q in let v = eqb-false k c e in
            get_or-eq_default (take (k + 1) l) d {n = c} (simp length-take (omega (arith, v)))
            ∙ sym (get_or-eq_default (take k l) d {n = c} (simp length-take (omega arith)))

-- ── what stands in a field ──
pub stands-none : (bytes : List ℕ) → Stands bytes (field 0 []) 0 0
stands-none bytes = record { place_is = refl; size_is = refl; bytes-are = refl; inside = omega arith }

pub stands-or : {bytes : List ℕ} {f g : Field} {p q : Span} (b : Bool) → Stands bytes f p.at p.size → Stands bytes g q.at q.size
    → Stands bytes (cond b f g) (cond b p q).at (cond b p q).size
stands-or true x y = x
stands-or false x y = y

quoted-some : (raw : List ℕ) → in_quotes raw ≡ true → 1 ≤ length raw
quoted-some [] q = absurd (false≢true q)
quoted-some (b ∷ bs) q = omega arith

module _ (bytes : List ℕ) (at line : ℕ) (f : FieldScan) (s : FieldScanned bytes at line f) where
  abbrev raw_of : List ℕ
  raw_of = take (f.end - at) (drop at bytes)

  raw-length : length raw_of ≡ f.end - at
  raw-length = let n = s.fits in length-take-le (f.end - at) (drop at bytes) (simp length-drop (omega arith))

  pub field-stands : Stands bytes (field at raw_of) (at + cond f.quoted 1 0) (cond f.quoted ((f.end - at) - 2) (f.end - at))
  field-stands = rw s.quoted (go (in_quotes raw_of) refl)
    where
      go : (q : Bool) → in_quotes raw_of ≡ q → Stands bytes (field at raw_of) (at + cond q 1 0) (cond q ((f.end - at) - 2) (f.end - at))
      go true q =
          let n = f.end - at in
          let l = raw-length in
          let some = quoted-some raw_of q in
          let w = s.fits in
          let held : body raw_of ≡ take (n - 2) (drop (at + 1) bytes) =
          ap (λ b. cond b (take (length raw_of - 2) (drop 1 raw_of)) raw_of) q ∙ ap (λ k. take (k - 2) (drop 1 raw_of)) l
          ∙ ap (take (n - 2)) (drop-one-take n (drop at bytes) ∙ ap (take (n - 1)) (drop-drop 1 at bytes))
          ∙ take-take (n - 2) (n - 1) (drop (at + 1) bytes) (omega arith) in
          record {
            place_is = rw q (omega arith);
            size_is = sym (ap length held ∙ length-take-le (n - 2) (drop (at + 1) bytes) (simp length-drop (omega arith)));
            bytes-are = sym held;
            inside = omega arith;
          }
      go false q =
          let l = raw-length in
          let w = s.fits in
          let b = s.begins in
          let held : body raw_of ≡ raw_of = ap (λ b. cond b (take (length raw_of - 2) (drop 1 raw_of)) raw_of) q in
          let z : at + 0 ≡ at = omega arith in
          record {
            place_is = rw q (omega arith);
            size_is = sym (ap length held ∙ l);
            bytes-are = ap (λ k. take (f.end - at) (drop k bytes)) z ∙ sym held;
            inside = omega arith;
          }

-- what is behind a field is less than what began with it
pub field-less : (bytes : List ℕ) (from : Place) (f : FieldScan) → FieldScanned bytes from.at from.line f → still_to_scan bytes f.behind < still_to_scan bytes (Comma from)
field-less bytes from f s = go f.behind s.beyond
  where
    go : (b : Behind) → Beyond bytes f.end b → still_to_scan bytes b < 1 + (length bytes - from.at)
    go (Comma p) l = let on = l.on in let h = l.scannable.fits in let w = s.begins in omega arith
    go (Line p) l = omega arith
    go File l = omega arith

-- ── one field more ──
module _ (bytes : List ℕ) (c : Columns) (row : RowScan) (from : Place) (comma : row.behind ≡ Comma from) (f : FieldScan) (s : FieldScanned bytes from.at from.line f) where
  abbrev found : Field
  found = field from.at (take (f.end - from.at) (drop from.at bytes))

  -- what stands in it
  abbrev pub found_span : Span
  found_span = record { at = from.at + cond f.quoted 1 0; size = cond f.quoted ((f.end - from.at) - 2) (f.end - from.at) }

  module _ (at line : ℕ) (part : RowPart bytes at line c row) where
    abbrev fs : List Field
    fs = (row_of (scanned_at bytes at line c)).fields

    -- it is the next of the row's
    part_left : drop row.width fs ≡ found ∷ fields_behind bytes f.behind
    part_left = part.left ∙ ap (fields_behind bytes) comma ∙ ap (λ (z : Rest). (row_of z).fields) s.is

    part-width : row.width < length fs
    part-width = let h = sym (length-drop row.width fs) ∙ ap length part_left in omega arith

    part-found : column_of fs row.width ≡ found
    part-found =
        let z : row.width + 0 ≡ row.width = omega arith in
        sym (get_or-drop row.width fs 0 (field 0 []) ∙ ap (column_of fs) z) ∙ ap (λ l. column_of l 0) part_left

    part-rows : (scanned_at bytes at line c).rows ≡ rows_behind bytes f.behind
    part-rows = part.rows ∙ ap (rows_behind bytes) comma ∙ ap (λ (z : Rest). z.rows) s.is

    part_right : (row.right && f.right) ≡ all (λ (g : Field). quotes_right g.raw) (take (row.width + 1) fs)
    part_right =
        let p : Field → Bool = λ g. quotes_right g.raw in
        rw (part.right, s.right)
        (sym
        (ap (λ k. all p (take k fs)) (add-one row.width) ∙ ap (all p) (take-suc fs row.width (field 0 []) part-width)
        ∙ all_append p (take row.width fs) (column_of fs row.width ∷ []) ∙ ap (λ g. all p (take row.width fs) && (p g && true)) part-found
        ∙ last (all p (take row.width fs)) (p found)))
      where
        last : (a b : Bool) → (a && (b && true)) ≡ (a && b)
        last true true = refl
        last true false = refl
        last false b = refl

    column-next : (k : ℕ) {p q : Span} → q ≡ cond (eqb row.width k) found_span p
        → Stands bytes (column_of (take row.width fs) k) p.at p.size → Stands bytes (column_of (take (row.width + 1) fs) k) q.at q.size
    column-next k e h =
        rw (e, get_d-one-more fs row.width k (field 0 []) part-width, part-found)
        (stands-or (eqb row.width k) (field-stands bytes from.at from.line f s) h)

    -- and what is behind it is behind its row's first fields
    part-ahead : (b : Behind) → f.behind ≡ b → Ahead bytes at line c (row.width + 1) b
    part-ahead b e = go b (rw e at s.beyond)
      where
        from-here : Scannable bytes from.at from.line × (at ≤ from.at) × (row.width ≤ from.at)
        from-here = rw comma at part.ahead

        go : (b : Behind) → Beyond bytes f.end b → Ahead bytes at line c (row.width + 1) b
        go (Comma p) l = let on = l.on in let w = s.begins in let h = from-here in (l.scannable, omega arith, omega arith)
        go (Line p) l = let on = l.on in let w = s.begins in let h = from-here in record { scannable = l.scannable; on = omega arith }
        go File l = tt

  -- the row with it
  pub record OneMore (r : RowScan) : Type 0 where
    pub width : r.width ≡ row.width + 1
    pub right : r.right ≡ (row.right && f.right)
    pub trip : r.trip ≡ cond (eqb row.width c.trip) found_span row.trip
    pub start : r.start ≡ cond (eqb row.width c.start) found_span row.start
    pub end : r.end ≡ cond (eqb row.width c.end) found_span row.end
    pub headway : r.headway ≡ cond (eqb row.width c.headway) found_span row.headway
    pub exact : r.exact ≡ cond (eqb row.width c.exact) found_span row.exact
    pub behind : r.behind ≡ f.behind

  pub part-next : (r : RowScan) → OneMore r → (at line : ℕ) → RowPart bytes at line c row → RowPart bytes at line c r
  part-next r m at line part =
      let k = part.columns in
      let z = fs at line part in
      record {
        left = rw (m.width, m.behind) (sym (drop-drop 1 row.width z) ∙ ap (drop 1) (part_left at line part));
        width = rw m.width (let h = part-width at line part in omega arith);
        right = rw (m.width, m.right) (part_right at line part);
        columns = rw m.width record {
          trip = column-next at line part c.trip m.trip k.trip;
          start = column-next at line part c.start m.start k.start;
          end = column-next at line part c.end m.end k.end;
          headway = column-next at line part c.headway m.headway k.headway;
          exact = column-next at line part c.exact m.exact k.exact;
        };
        rows = rw m.behind (part-rows at line part);
        ahead = rw (m.width, m.behind) (part-ahead at line part f.behind refl);
      }

  pub less-next : (r : RowScan) → OneMore r → still_to_scan bytes r.behind < still_to_scan bytes (Comma from)
  less-next r m = rw m.behind (field-less bytes from f s)

-- ── the row ──
module _ (bytes : List ℕ) (at line : ℕ) (c : Columns) where
  abbrev none : Span
  none = record { at = 0; size = 0 }

  pub part_none : Scannable bytes at line → RowPart bytes at line c record {
    width = 0;
    right = true;
    trip = none;
    start = none;
    end = none;
    headway = none;
    exact = none;
    behind = Comma (record { at = at; line = line });
  }
  part_none h = record {
    left = refl;
    width = omega arith;
    right = refl;
    columns = record { trip = stands-none bytes; start = stands-none bytes; end = stands-none bytes; headway = stands-none bytes; exact = stands-none bytes };
    rows = refl;
    ahead = (h, omega arith, omega arith);
  }

  pub part-all : (r : RowScan) → RowPart bytes at line c r → ((p : Place) → r.behind ≢ Comma p) → RowScanned bytes at line c r
  part-all r p e =
      let z = (row_of (scanned_at bytes at line c)).fields in
      let none : drop r.width z ≡ [] = p.left ∙ no-field r.behind e in
      let w : r.width ≡ length z = (let h = sym (length-drop r.width z) ∙ ap length none in let l = p.width in omega arith) in
      let t : take r.width z ≡ z = take_all r.width z (omega arith) in
      record {
        width = w;
        right = p.right ∙ ap (all (λ (g : Field). quotes_right g.raw)) t;
        columns = rw t at p.columns;
        rows = p.rows ∙ rows-last r.behind e;
        beyond = last r.behind e p.ahead;
      }
    where
      no-field : (b : Behind) → ((p : Place) → b ≢ Comma p) → fields_behind bytes b ≡ []
      no-field (Comma q) e = absurd (e q refl)
      no-field (Line q) e = refl
      no-field File e = refl

      rows-last : (b : Behind) → ((p : Place) → b ≢ Comma p) → rows_behind bytes b ≡ rows_from bytes (row_behind b)
      rows-last (Comma q) e = absurd (e q refl)
      rows-last (Line q) e = refl
      rows-last File e = refl

      last : (b : Behind) → ((p : Place) → b ≢ Comma p) → Ahead bytes at line c r.width b → IfSome (row_behind b) (Later bytes at)
      last (Comma q) e h = absurd (e q refl)
      last (Line q) e h = h
      last File e h = tt
