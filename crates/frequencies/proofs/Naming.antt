-- A name looked for field by field: what was found before a field and what the field says is so of both. Assumes nothing.
use Prim.Native.Nat.{ℕ, zero, suc, ◌+◌, ◌-◌, ◌≤◌}
use native.Mathlib.Omega.{arith}
use mathlib.Core.Bool.{Bool, true, false, cond, not, ◌&&◌}
use mathlib.Core.List.{List, [], ◌∷◌}
use mathlib.Core.Path.{◌≡◌, refl, ap, sym, ◌∙◌}
use lib.Dec.{eqb, leb}
use lib.ListN.{take, drop}
use borrow.Author.Tests.{eqb-true, eqb-false, eq-eqb, ne_eqb}
use Rattle.paper.specs.Lists.{every}
use Rattle.frequencies.specs.Csv.{Field, field, body, row_of, front, split}
use Rattle.frequencies.specs.Values.{same, names, column, named, trip_id, start_time, end_time, headway_secs, exact_times}
use Rattle.frequencies.specs.Reading as reading
use Rattle.frequencies.specs.Scan.{Scannable, FieldScanned, RowScanned, fields_behind, row_behind, Beyond, Later}
use Rattle.std.specs.Prelude.{◌≢◌, Option, None, Some, IfSome}
use Rattle.frequencies.specs.declared.fields.Place.{Place}
use Rattle.frequencies.specs.declared.fields.Behind.{Behind}
use Rattle.frequencies.specs.declared.fields.Behind.TheVariants.{Comma, Line, File}
use Rattle.frequencies.proofs.ByField.{field-less}
use Rattle.frequencies.specs.Heading.{FewFound, Sought, SoughtNext, Found, Headed}
use Rattle.frequencies.specs.declared.fields.FieldScan.{FieldScan}
use Rattle.frequencies.specs.declared.header.Named.{Named}
use Rattle.frequencies.specs.declared.rows.Columns.{Columns}
use Rattle.frequencies.specs.declared.rows.RowScan.{RowScan}

-- ── what is found ──
-- one more field is passed
abbrev pub passed_by : ℕ → Bool → ℕ
passed_by count is = cond (eqb count 0 && not is) 1 0

place-step : (at count left all : ℕ) (is : Bool) → at + cond (eqb count 0) (cond is zero (suc left)) 0 ≡ all
    → (at + passed_by count is) + cond (eqb (count + cond is 1 0) 0) left 0 ≡ all
place-step at count left all is = go (eqb count 0) refl is
  where
    go : (b : Bool) → eqb count 0 ≡ b → (y : Bool) → at + cond b (cond y zero (suc left)) 0 ≡ all
        → (at + cond (b && not y) 1 0) + cond (eqb (count + cond y 1 0) 0) left 0 ≡ all
    go true e true h = rw (ne_eqb (count + 1) 0 (λ q. omega arith)) (omega arith)
    go true e false h = rw (eq-eqb (count + 0) 0 (let z = eqb-true count 0 e in omega arith)) (omega arith)
    go false e y h = rw (ne_eqb (count + cond y 1 0) 0 (λ q. eqb-false count 0 e (omega arith))) (omega arith)

module _ (name : List ℕ) (fs : List Field) where
  sought-on : (n r : Named) (f : Field) (left : List Field) (is : Bool) → Sought name fs (f ∷ left) n → is ≡ names name f
      → r.count ≡ n.count + cond is 1 0 → r.column ≡ n.column + passed_by n.count is → Sought name fs left r
  sought-on n r f left is s e p q = record {
    times = let t = rw (← e) at s.times in rw p (omega arith);
    place = rw (p, q) (place-step n.column n.count (column name left) (column name fs) is (rw (← e) at s.place));
  }

-- ── one field more ──
module _ (bytes name : List ℕ) (n : Named) (from : Place) (on : n.behind ≡ Comma from) (f : FieldScan) (s : FieldScanned bytes from.at from.line f) where
  abbrev raw_of : List ℕ
  raw_of = take (f.end - from.at) (drop from.at bytes)

  -- the fields that were left are this one and the ones that are left now
  left_is : fields_behind bytes n.behind ≡ field from.at raw_of ∷ fields_behind bytes f.behind
  left_is = ap (fields_behind bytes) on ∙ ap (λ r. (row_of r).fields) s.is

  one : {a : ℕ} (t : Bool) → a ≡ cond t 1 0 → a ≤ 1
  one true e = omega arith
  one false e = omega arith

  pub sought-next : (is : Bool) (a b : ℕ) → is ≡ same (body raw_of) name → a ≡ passed_by n.count is → b ≡ cond is 1 0
      → n.column ≤ from.at → n.count ≤ from.at
      → SoughtNext bytes name from n record { column = n.column + a; count = n.count + b; behind = f.behind }
  sought-next is a b e p q few many = record {
    part = λ fs t. sought-on name fs n record { column = n.column + a; count = n.count + b; behind = f.behind }
        (field from.at raw_of) (fields_behind bytes f.behind) is (rw left_is at t) e (ap (n.count +◌) q) (ap (n.column +◌) p);
    less = field-less bytes from f s;
    few = go f.behind s.beyond;
  }
    where
      go : (b' : Behind) → Beyond bytes f.end b' → FewFound bytes record { column = n.column + a; count = n.count + b; behind = b' }
      go (Comma k) l =
          let h = l.on in let begins = s.begins in let u = one (eqb n.count 0 && not is) p in let v = one is q in
          (l.scannable, omega arith, omega arith)
      go (Line k) l = tt
      go File l = tt

-- ── all fields ──
abbrev pub seek_from : Place → Named
seek_from from = record { column = 0; count = 0; behind = Comma from }

abbrev fields_at : List ℕ → ℕ → ℕ → List Field
fields_at bytes at line = (row_of (split at line front (drop at bytes))).fields

-- the fields up to where looking has come
pub record Seeking (bytes : List ℕ) (at line : ℕ) (name : List ℕ) (n : Named) : Type 0 where
  pub so : Sought name (fields_at bytes at line) (fields_behind bytes n.behind) n
  pub few : FewFound bytes n

pub seeking-start : (bytes name : List ℕ) (from : Place) → Scannable bytes from.at from.line → Seeking bytes from.at from.line name (seek_from from)
seeking-start bytes name from s = record { so = record { times = omega arith; place = omega arith }; few = (s, omega arith, omega arith) }

module _ {bytes : List ℕ} {at line : ℕ} {name : List ℕ} {n : Named} (s : Seeking bytes at line name n) where
  pub seeking-next : {r : Named} {from : Place} → SoughtNext bytes name from n r → Seeking bytes at line name r
  seeking-next t = record { so = t.part (fields_at bytes at line) s.so; few = t.few }

  pub seeking-end : ((p : Place) → n.behind ≢ Comma p) → Found bytes at line name n
  seeking-end e =
      let left : fields_behind bytes n.behind ≡ [] = none n.behind e in
      let t : n.count + 0 ≡ named name (fields_at bytes at line) = sym (ap (λ l. n.count + named name l) left) ∙ s.so.times in
      record { times = omega arith; place = last (eqb n.count 0) (sym (ap (λ l. n.column + cond (eqb n.count 0) (column name l) 0) left) ∙ s.so.place) }
    where
      none : (b : Behind) → ((p : Place) → b ≢ Comma p) → fields_behind bytes b ≡ []
      none (Comma q) e = absurd (e q refl)
      none (Line q) e = refl
      none File e = refl

      last : (b : Bool) {a : ℕ} → n.column + cond b 0 0 ≡ a → n.column ≡ a
      last true h = omega arith
      last false h = omega arith

-- ── the header ──
five-tests : (a b c d e : Bool) → ((((a && b) && c) && d) && e) ≡ every (a ∷ b ∷ c ∷ d ∷ e ∷ [])
unfolding every
five-tests false b c d e = refl
five-tests true false c d e = refl
five-tests true true false d e = refl
five-tests true true true false e = refl
five-tests true true true true true = refl
five-tests true true true true false = refl

five-columns : {a a' b b' c c' d d' e e' : ℕ} → a ≡ a' → b ≡ b' → c ≡ c' → d ≡ d' → e ≡ e'
    → ◌≡◌ {A = reading.Columns} (record { trip = a; start = b; end = c; headway = d; exact = e }) (record { trip = a'; start = b'; end = c'; headway = d'; exact = e' })
five-columns p q r s t = rw (p, q, r, s, t)

later : (bytes : List ℕ) (at : ℕ) (o : Option Place) → IfSome o (Later bytes at) → IfSome o (λ p. Scannable bytes p.at p.line)
later bytes at None h = tt
later bytes at (Some p) h = h.scannable

module _ (bytes : List ℕ) (at : ℕ) {trip start end headway exact : Named} (f₁ : Found bytes at 1 trip_id trip) (f₂ : Found bytes at 1 start_time start)
    (f₃ : Found bytes at 1 end_time end) (f₄ : Found bytes at 1 headway_secs headway) (f₅ : Found bytes at 1 exact_times exact) where
  abbrev columns_found : Columns
  columns_found = record { trip = trip.column; start = start.column; end = end.column; headway = headway.column; exact = exact.column }

  pub headed : {row : RowScan} → RowScanned bytes at 1 columns_found row
      → Headed bytes at record {
        columns = columns_found;
        good = (((eqb trip.count 1 && eqb start.count 1) && eqb end.count 1) && eqb headway.count 1) && leb exact.count 1;
        width = row.width;
        right = row.right;
        next = row_behind row.behind;
      }
  headed {row} s = record {
    columns = five-columns f₁.place f₂.place f₃.place f₄.place f₅.place;
    good = rw (f₁.times, f₂.times, f₃.times, f₄.times, f₅.times)
        (let fs = fields_at bytes at 1 in
        five-tests (eqb (named trip_id fs) 1) (eqb (named start_time fs) 1) (eqb (named end_time fs) 1) (eqb (named headway_secs fs) 1) (leb (named exact_times fs) 1));
    width = s.width;
    right = s.right;
    rows = s.rows;
    here = later bytes at (row_behind row.behind) s.beyond;
  }
