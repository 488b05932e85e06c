-- Packed rows fit a file's fields if the tables that they are packed from do: each number is one of theirs, but for the first entries, which
-- are few. Assumes nothing.
use Prim.Native.Nat.{ℕ, zero, suc, ◌+◌, ◌-◌, ◌≤◌, ◌<◌}
use native.Mathlib.Nat.{le_refl, not-suc-le-zero}
use native.Mathlib.Omega.{arith}
use mathlib.Core.Bool.{Bool, true, false}
use mathlib.Core.List.{List, ◌++◌}
use mathlib.Core.Path.{◌≡◌, refl}
use lib.Dec.{ltb}
use lib.IntN.{ℤ, pos}
use lib.ListN.{length, get_or, take, drop, length-map, length-append, get_or-append}
use lib.Seq.{get_or-append-add, get_or-take, get_or-drop}
use borrow.Author.Tests.{ltb-true, ltb-false}
use mir.Syntax.{w16, w32}
use mir.Val.{SFits}
use Rattle.paper.specs.Lists.{total, nat, joined}
use Rattle.paper.specs.Tables.{Tables, part}
use Rattle.paper.specs.File.{version1, unbounded_contents, Fitting}
use Rattle.paper.proofs.Buffers.{get_d-below}
use Rattle.paper.proofs.Scan.{part_length}
use Rattle.damage.specs.Saved.{packed}
use Rattle.damage.proofs.Packed.{map_at, total-within, Rows, packed-entries}

-- what holds of each place of every list holds of each place of them all
joined-each : {A : Type 0} (P : A → Type 0) (d : A) (f : ℕ → List A) (n : ℕ) → ((k : ℕ) → k < n → (j : ℕ) → j < length (f k) → P (get_or (f k) j d))
    → (i : ℕ) → i < length (joined f n) → P (get_or (joined f n) i d)
joined-each P d f zero h i l = absurd (not-suc-le-zero l)
joined-each P d f (suc n) h i l = go (ltb i (length (joined f n))) refl (joined-each P d f n (λ k low. h k (omega arith)) i) (h n (le_refl (suc n)))
  where
    go : (b : Bool) → ltb i (length (joined f n)) ≡ b → (i < length (joined f n) → P (get_or (joined f n) i d)) → ((j : ℕ) → j < length (f n) → P (get_or (f n) j d))
        → P (get_or (joined f n ++ f n) i d)
    go true e before last = let low = ltb-true i (length (joined f n)) e in rw (get_or-append (joined f n) (f n) d i low) (before low)
    go false e before last =
        let high = ltb-false i (length (joined f n)) e in let long = length-append (joined f n) (f n) in
        let j = i - length (joined f n) in let z : i ≡ length (joined f n) + j = omega arith in
        rw (z, get_or-append-add (joined f n) (f n) j d) (last j (omega arith))

-- of each entry: so of each entry of a part
part-each : {A : Type 0} (P : A → Type 0) (d : A) (l : List A) (a c : ℕ) → a + c ≤ length l → ((i : ℕ) → i < length l → P (get_or l i d))
    → (j : ℕ) → j < length (take c (drop a l)) → P (get_or (take c (drop a l)) j d)
part-each P d l a c h each j low =
    let long = part_length l a c h in
    rw (get_or-take c (drop a l) j d (omega arith), get_or-drop a l j d) (each (a + j) (omega arith))

module _ (t : Tables) (starts : List ℤ) (fit : Fitting version1 (unbounded_contents t starts)) (rows : List ℕ) (s : Rows t rows) (low : (k : ℕ) → k < length rows → nat rows k < t.m)
    (vars : length t.vars ≤ t.e) (coefs : length t.coefs ≤ t.e) (saved : List ℤ) (start : (v : ℕ) → v < t.n → SFits w32 (get_or saved v (pos 0))) where
  abbrev P : Tables
  P = packed t rows

  pub packed-fits : Fitting version1 (unbounded_contents P saved)
  packed-fits = record {
    starts = start;
    rows = λ k l. let r = nat rows k in let f = fit.rows r (low k l) in (
      rw (map_at (nat t.kinds) rows k 0 l) f.0,
      rw (map_at (nat t.makes) rows k 0 l) f.1,
      rw (map_at (λ q. get_or t.params q (pos 0)) rows k (pos 0) l) f.2,
      first k l,
      rw (map_at (nat t.counts) rows k 0 l) f.4,
    );
    entries = λ i l. (
      joined-each (λ x. x < 65536) 0 (λ k. part t (nat rows k) t.vars) (length rows) (λ k h. part-each (λ x. x < 65536) 0 t.vars _ _ (s.whole k h).vars (λ j g. (fit.entries j (omega arith)).0)) i
          (let long = packed-entries t rows s.whole t.vars (λ k h. (s.whole k h).vars) in omega arith),
      joined-each (SFits w16) (pos 0) (λ k. part t (nat rows k) t.coefs) (length rows) (λ k h. part-each (SFits w16) (pos 0) t.coefs _ _ (s.whole k h).coefs (λ j g. (fit.entries j (omega arith)).1)) i
          (let long = packed-entries t rows s.whole t.coefs (λ k h. (s.whole k h).coefs) in omega arith),
    );
    bounds = λ i l. absurd (not-suc-le-zero l);
  }
    where
      first : (k : ℕ) → k < length rows → nat P.firsts k < 65536
      first k l =
          let few = s.few in let inside = total-within P.counts k (let h = length-map rows (nat t.counts) in omega arith) in
          rw (get_d-below (λ j. total (take j P.counts)) (length rows) k 0 l) (omega arith)
