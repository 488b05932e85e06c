-- Rows filled from the front: what was put stays, and what is left belongs behind it. Assumes nothing.
use Prim.Native.Nat.{ℕ, suc, ◌+◌, ◌-◌, ◌≤◌, ◌<◌}
use native.Mathlib.Numerals.{add-one}
use native.Mathlib.Omega.{arith}
use mathlib.Core.Bool.{cond}
use mathlib.Core.List.{List, [], ◌∷◌, ◌++◌, append_assoc}
use mathlib.Core.Path.{◌≡◌, refl, ap, sym, ◌∙◌}
use lib.IntN.{ℤ}
use lib.ListN.{length, take, drop, set, length-set, take-append-drop}
use lib.Seq.{take-suc-set, drop-set-lt}
use Rattle.paper.specs.Lists.{any}
use Rattle.frequencies.specs.Csv.{is_quote, Row, row_of, front}
use Rattle.frequencies.specs.Values.{time, headway, exact}
use Rattle.frequencies.specs.Reading.{Windows, windows_in, windows_of, laid_over, room_for}
use Rattle.frequencies.specs.Reading as reading
use Rattle.std.specs.Prelude.{Option, None, Some, IfSome}
use Rattle.frequencies.specs.Scan.{Scannable, RowScanned, Later, rows_from, row_behind, scanned_at}
use Rattle.frequencies.specs.declared.fields.Place.{Place}
use Rattle.frequencies.specs.Heading.{columns_in}
use Rattle.frequencies.specs.Filling.{Room, Held, window_put, laid_from, windows_from, SameSizes, Filled, still_to_fill}
use Rattle.frequencies.proofs.Scanning.{split-line}
use Rattle.frequencies.specs.declared.rows.Columns.{Columns}
use Rattle.frequencies.specs.declared.rows.RowScan.{RowScan}

-- ── one row of numbers ──
module _ {A B : Type 0} (f : A → B) where
  laid-first : (xs : List A) (now : List B) → laid_from 0 f xs now ≡ laid_over f xs now
  laid-first xs now = let z : 0 + length xs ≡ length xs = omega arith in rw z refl

  laid_next : (i : ℕ) (x : A) (xs : List A) (now : List B) (v : B) → i < length now → v ≡ f x → laid_from (i + 1) f xs (set now i v) ≡ laid_from i f (x ∷ xs) now
  laid_next i x xs now v h e =
      let z : i + 1 + length xs ≡ i + suc (length xs) = omega arith in
      rw (add-one i, take-suc-set now i v h, ← add-one i, drop-set-lt (i + 1 + length xs) now i v (omega arith), z, e, append_assoc) refl

laid-last : {B : Type 0} (i : ℕ) (now : List B) → take i now ++ drop (i + 0) now ≡ now
laid-last i now = let z : i + 0 ≡ i = omega arith in rw z (take-append-drop i now)

-- ── all eight ──
pub windows-same : (w : Windows) {a b c : List ℕ} {d e f : List ℤ} {g h : List ℕ}
    → w.name_places ≡ a → w.name_lengths ≡ b → w.name_doubled ≡ c → w.starts ≡ d → w.ends ≡ e → w.headways ≡ f → w.exacts ≡ g → w.lines ≡ h
    → w ≡ windows_in a b c d e f g h
windows-same w p q r s t u v x = rw (← p, ← q, ← r, ← s, ← t, ← u, ← v, ← x) refl

module _ (c : reading.Columns) where
  pub windows-first : (rs : List Row) (w : Windows) → windows_from 0 c rs w ≡ windows_of c rs w
  windows-first rs w =
      windows-same (windows_from 0 c rs w) (laid-first _ rs _) (laid-first _ rs _) (laid-first _ rs _) (laid-first _ rs _) (laid-first _ rs _) (laid-first _ rs _)
      (laid-first _ rs _) (laid-first _ rs _)

  pub windows-last : (i : ℕ) (w : Windows) → windows_from i c [] w ≡ w
  windows-last i w =
      windows-same (windows_from i c [] w) (laid-last i w.name_places) (laid-last i w.name_lengths) (laid-last i w.name_doubled) (laid-last i w.starts)
      (laid-last i w.ends) (laid-last i w.headways) (laid-last i w.exacts) (laid-last i w.lines)

-- ── the next row ──
module _ (bytes : List ℕ) (c : Columns) (next line : ℕ) (here : Scannable bytes next line) (r : RowScan) (s : RowScanned bytes next line c r) where
  abbrev this : Row
  this = row_of (scanned_at bytes next line c)

  pub row-held : Held bytes r line
  row-held = record {
    small = here.small;
    on = let l = here.lines in let f = here.fits in let m = here.small in omega arith;
    trip = s.columns.trip.inside;
    start = s.columns.start.inside;
    end = s.columns.end.inside;
    headway = s.columns.headway.inside;
    exact = s.columns.exact.inside;
  }

  module _ (i : ℕ) (w : Windows) where
    windows-next : (rs : List Row) → Room (i + length (this ∷ rs)) w
        → windows_from (i + 1) (columns_in c) rs (window_put bytes r line i w) ≡ windows_from i (columns_in c) (this ∷ rs) w
    windows-next rs m =
        let k = s.columns in
        windows-same _ (laid_next _ i this rs _ _ (let h = m.name-places in omega arith) k.trip.place_is)
        (laid_next _ i this rs _ _ (let h = m.name-lengths in omega arith) k.trip.size_is)
        (laid_next _ i this rs _ _ (let h = m.name-doubled in omega arith) (ap (λ l. cond (any is_quote l) 1 0) k.trip.bytes-are))
        (laid_next _ i this rs _ _ (let h = m.starts in omega arith) (ap time k.start.bytes-are))
        (laid_next _ i this rs _ _ (let h = m.ends in omega arith) (ap time k.end.bytes-are))
        (laid_next _ i this rs _ _ (let h = m.headways in omega arith) (ap headway k.headway.bytes-are))
        (laid_next _ i this rs _ _ (let h = m.exacts in omega arith) (ap exact k.exact.bytes-are))
        (laid_next _ i this rs _ _ (let h = m.lines in omega arith) (sym (split-line front next line (drop next bytes))))

    room_next : (n : ℕ) → Room (i + suc n) w → Room (i + 1 + n) (window_put bytes r line i w)
    room_next n m = record {
      name-places = simp length-set (let h = m.name-places in omega arith);
      name-lengths = simp length-set (let h = m.name-lengths in omega arith);
      name-doubled = simp length-set (let h = m.name-doubled in omega arith);
      starts = simp length-set (let h = m.starts in omega arith);
      ends = simp length-set (let h = m.ends in omega arith);
      headways = simp length-set (let h = m.headways in omega arith);
      exacts = simp length-set (let h = m.exacts in omega arith);
      lines = simp length-set (let h = m.lines in omega arith);
    }

    sizes-next : {v : Windows} → SameSizes v w → SameSizes v (window_put bytes r line i w)
    sizes-next z = record {
      name-places = simp length-set z.name-places;
      name-lengths = simp length-set z.name-lengths;
      name-doubled = simp length-set z.name-doubled;
      starts = simp length-set z.starts;
      ends = simp length-set z.ends;
      headways = simp length-set z.headways;
      exacts = simp length-set z.exacts;
      lines = simp length-set z.lines;
    }

-- ── the walk over the rows ──
module _ (bytes : List ℕ) (c : Columns) where
  pub filled_none : (first : Option Place) (w : Windows) → IfSome first (λ p. Scannable bytes p.at p.line) → Room (length (rows_from bytes first)) w
      → Filled bytes c (rows_from bytes first) w first 0 w
  filled_none first w h m = record {
    all = windows-first (columns_in c) (rows_from bytes first) w;
    room = let z : 0 + length (rows_from bytes first) ≡ length (rows_from bytes first) = omega arith in rw z m;
    sizes = record {
      name-places = refl;
      name-lengths = refl;
      name-doubled = refl;
      starts = refl;
      ends = refl;
      headways = refl;
      exacts = refl;
      lines = refl;
    };
    here = go first h;
  }
    where
      go : (o : Option Place) → IfSome o (λ p. Scannable bytes p.at p.line) → IfSome o (λ p. Scannable bytes p.at p.line × (0 ≤ p.at))
      go None h = tt
      go (Some p) h = (h, omega arith)

  module _ {rs : List Row} {w : Windows} {i : ℕ} {v : Windows} (p : Place) (f : Filled bytes c rs w (Some p) i v) where
    now-room : Room (i + suc (length (scanned_at bytes p.at p.line c).rows)) v
    now-room = f.room

    pub filled-room : Room (i + 1) v
    filled-room =
        let m = now-room in
        record {
          name-places = let h = m.name-places in omega arith;
          name-lengths = let h = m.name-lengths in omega arith;
          name-doubled = let h = m.name-doubled in omega arith;
          starts = let h = m.starts in omega arith;
          ends = let h = m.ends in omega arith;
          headways = let h = m.headways in omega arith;
          exacts = let h = m.exacts in omega arith;
          lines = let h = m.lines in omega arith;
        }

    pub filled_next : (r : RowScan) → RowScanned bytes p.at p.line c r → (v' : Windows) → v' ≡ window_put bytes r p.line i v
        → Filled bytes c rs w (row_behind r.behind) (i + 1) v'
    filled_next r s v' e =
        let here = f.here.0 in
        let rest = (scanned_at bytes p.at p.line c).rows in
        let z = ap length s.rows in
        rw e
        record {
          all =
              ap (λ l. windows_from (i + 1) (columns_in c) l (window_put bytes r p.line i v)) (sym s.rows) ∙ windows-next bytes c p.at p.line here r s i v rest now-room
              ∙ f.all;
          room = rw z at (room_next bytes c p.at p.line here r s i v (length rest) now-room);
          sizes = sizes-next bytes c p.at p.line here r s i v f.sizes;
          here = go (row_behind r.behind) s.beyond;
        }
      where
        go : (o : Option Place) → IfSome o (Later bytes p.at) → IfSome o (λ q. Scannable bytes q.at q.line × (i + 1 ≤ q.at))
        go None h = tt
        go (Some q) h = let l = h.on in let k = f.here.1 in (h.scannable, omega arith)

    pub filled-less : (r : RowScan) → RowScanned bytes p.at p.line c r → still_to_fill bytes (row_behind r.behind) < still_to_fill bytes (Some p)
    filled-less r s = go (row_behind r.behind) s.beyond
      where
        go : (o : Option Place) → IfSome o (Later bytes p.at) → still_to_fill bytes o < 1 + (length bytes - p.at)
        go None h = omega arith
        go (Some q) h = let l = h.on in let k = h.scannable.fits in omega arith

  pub filled-all : {rs : List Row} {w v : Windows} {i : ℕ} → Filled bytes c rs w None i v → v ≡ windows_of (columns_in c) rs w
  filled-all {v = v} {i} f = sym (windows-last (columns_in c) i v) ∙ f.all
