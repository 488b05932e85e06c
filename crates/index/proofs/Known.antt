-- Tables that passed checks 1 to 5 are laid, and an index that passed check 8 has the readers of each variable from its start to the next one's.
-- The index of the entries alone is that of the whole tables. Assumes nothing.
use Prim.Native.Nat.{ℕ, zero, suc, ◌+◌, ◌-◌, ◌≤◌, ◌<◌}
use native.Mathlib.Nat.{le_refl, not-suc-le-zero}
use native.Mathlib.Numerals.{add-one}
use native.Mathlib.Omega.{arith}
use mathlib.Core.Bool.{Bool, true, false}
use mathlib.Core.List.{List}
use mathlib.Core.Path.{◌≡◌, refl, ap, sym, ◌∙◌}
use lib.Dec.{ltb}
use lib.ListN.{length, take, drop}
use lib.Seq.{slice, length-slice, get_or-take, get_or-drop, ext_get_or}
use borrow.Author.Tests.{eqb-true, ltb-true, ltb-false}
use Rattle.paper.specs.Lists.{nat, total}
use Rattle.paper.specs.Tables.{Tables, index_in, readers, readers_start}
use Rattle.paper.specs.Checks.{Sound, indexed}
use Rattle.paper.proofs.Scan.{total-next}
use Rattle.paper.proofs.Sizes.{sized-facts}
use Rattle.paper.proofs.Accept.{sound-row, row_below}
use Rattle.index.specs.Index.{entries_only, EntriesLaid, Indexed}
use Rattle.paper.proofs.Those.{joined-grown, joined-le}
use Rattle.paper.proofs.Indexed.{indexed-start, indexed-place}
use Rattle.index.proofs.Few.{readers-few}

abbrev pub entries_of : Tables → Tables
entries_of t = entries_only t.n t.m t.e t.firsts t.counts t.vars

-- an entry below the total of k counts belongs to one of these rows
row_at : (counts : List ℕ) (k i : ℕ) → k ≤ length counts → i < total (take k counts)
    → (r : ℕ) × (r < k) × (total (take r counts) ≤ i) × (i < total (take r counts) + nat counts r)
row_at counts zero i h l = absurd (not-suc-le-zero l)
row_at counts (suc k) i h l = go (ltb i (total (take k counts))) refl (row_at counts k i)
  where
    go : (b : Bool) → ltb i (total (take k counts)) ≡ b
        → (k ≤ length counts → i < total (take k counts) → (r : ℕ) × (r < k) × (total (take r counts) ≤ i) × (i < total (take r counts) + nat counts r))
        → (r : ℕ) × (r < suc k) × (total (take r counts) ≤ i) × (i < total (take r counts) + nat counts r)
    go true q more = let (r, a, b, c) = more (omega arith) (ltb-true i (total (take k counts)) q) in (r, omega arith, b, c)
    go false q more =
        let s = ltb-false i (total (take k counts)) q in
        let n = ap (λ (j : ℕ). total (take j counts)) (sym (add-one k)) ∙ total-next counts k h in
        (k, le_refl (suc k), s, omega arith)

pub laid_of : (t : Tables) → Sound t → EntriesLaid t
laid_of t s =
    let z = sized-facts t s.sized in
    record {
      few = z.n-most;
      rows = z.m-most;
      small = z.e-most;
      firsts = z.firsts;
      counts = z.counts;
      vars = z.vars;
      first = λ r l. (sound-row t s r l).first;
      whole = whole;
      low = λ i l.
          let (r, h, a, b) = row_at t.counts t.m i z.counts (let w = whole in omega arith) in
          let f = (sound-row t s r h).first in let first = nat t.firsts r in
          let e : first + (i - first) ≡ i = omega arith in
          let at = get_or-take (nat t.counts r) (drop first t.vars) (i - first) 0 (omega arith) ∙ get_or-drop first t.vars (i - first) 0 ∙ ap (nat t.vars) e in
          let k = row_below t s r (i - first) h (omega arith) in
          omega arith;
    }
  where
    whole : total (take t.m t.counts) ≡ t.e
    whole = eqb-true (total (take t.m t.counts)) t.e s.whole

pub entries-laid : (t : Tables) → Sound t → EntriesLaid (entries_of t)
entries-laid t s =
    let k = laid_of t s in
    record { few = k.few; rows = k.rows; small = k.small; firsts = k.firsts; counts = k.counts; vars = k.vars; first = k.first; whole = k.whole; low = k.low }

pub indexed-known : (t : Tables) → EntriesLaid t → (starts places : List ℕ) → suc t.n ≤ length starts → t.e ≤ length places
    → indexed t (index_in starts places) ≡ true → Indexed t starts places
indexed-known t L starts places long room ok = record { long = long; rise = λ v l. (next v l).0; inside = λ v l. (next v l).1; at = section }
  where
    start : (v : ℕ) → v ≤ t.n → nat starts v ≡ readers_start t v
    start = indexed-start t (index_in starts places) ok

    next : (v : ℕ) → v < t.n → (nat starts v ≤ nat starts (suc v)) × (nat starts (suc v) ≤ length places)
    next v l =
        let a = start v (omega arith) in let b = start (suc v) l in let s = joined-grown (readers t) v in
        let r = joined-le (readers t) (suc v) t.n l in let f = readers-few t L in
        (omega arith, omega arith)

    section : (v : ℕ) → v < t.n → slice (nat starts v) (nat starts (suc v)) places ≡ readers t v
    section v l = ext_get_or 0 (slice (nat starts v) (nat starts (suc v)) places) (readers t v) (length-slice (nat starts v) (nat starts (suc v)) places (next v l).1 ∙ size) (λ j h.
        let k = length-slice (nat starts v) (nat starts (suc v)) places (next v l).1 in let s = size in
        get_or-drop (nat starts v) (take (nat starts (suc v)) places) j 0 ∙ get_or-take (nat starts (suc v)) places (nat starts v + j) 0 (omega arith) ∙ ap (λ a. nat places (a + j)) (start v (omega arith))
        ∙ indexed-place t (index_in starts places) ok v j l (omega arith))
      where
        size : nat starts (suc v) - nat starts v ≡ length (readers t v)
        size = let a = start v (omega arith) in let b = start (suc v) l in let s = joined-grown (readers t) v in omega arith
