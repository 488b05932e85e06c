-- An index passes check 8 exactly if it has every start, and the readers of each variable from there on; build's does. Assumes nothing.
use Prim.Native.Nat.{ℕ, zero, suc, ◌+◌, ◌≤◌, ◌<◌}
use native.Mathlib.Nat.{le_refl}
use native.Mathlib.Numerals.{add-one}
use native.Mathlib.Omega.{arith}
use mathlib.Core.Bool.{Bool, true}
use mathlib.Core.List.{[]}
use mathlib.Core.Path.{◌≡◌, refl, ap, sym, ◌∙◌}
use lib.Dec.{eqb}
use lib.ListN.{length, take, drop, get_or-append}
use borrow.Author.Tests.{eqb-true, eq-eqb}
use Rattle.paper.specs.Lists.{total, nat, those, joined}
use Rattle.paper.specs.Tables.{Tables, Index, part, reads, readers, readers_start, index}
use Rattle.paper.specs.Checks.{indexed}
use Rattle.paper.proofs.Lists.{each, all_yes}
use Rattle.paper.proofs.Those.{joined-none, joined-grown, joined-le, joined-those}
use Rattle.paper.proofs.Count.{size_in}
use Rattle.paper.proofs.Least.{all_below-at, below_all}
use Rattle.paper.proofs.Scan.{total-next}
use Rattle.paper.proofs.Buffers.{over-at}
use Rattle.paper.proofs.Sections.{section-at, section-of}

-- the readers of v end before those of all end
pub readers-within : (t : Tables) (v j : ℕ) → v < t.n → j < length (readers t v) → readers_start t v + j < readers_start t t.n
readers-within t v j l h = let s = joined-grown (readers t) v in let r = joined-le (readers t) (suc v) t.n l in omega arith

-- the readers of all are at most as many as the entries of the rows: a row is among the readers of at most as many variables as it has entries
module _ (t : Tables) (long : t.m ≤ length t.counts) (parts : (r : ℕ) → r < t.m → length (part t r t.vars) ≡ nat t.counts r) where
  rows-most : (k : ℕ) → k ≤ t.m → length (joined (λ v. those (reads t v) k) t.n) ≤ total (take k t.counts)
  rows-most zero h = let z : length (joined {A = ℕ} (λ v. []) t.n) ≡ 0 = ap length (joined-none (λ v. []) t.n (λ v l. refl)) in omega arith
  rows-most (suc k) h =
      let a = joined-those (reads t) k t.n in let b = size_in (part t k t.vars) t.n in let c = parts k h in
      let s = ap (λ (j : ℕ). total (take j t.counts)) (sym (add-one k)) ∙ total-next t.counts k (omega arith) in let i = rows-most k (omega arith) in
      omega arith

  pub readers-most : readers_start t t.n ≤ total (take t.m t.counts)
  readers-most = rows-most t.m (le_refl t.m)

module _ (t : Tables) (x : Index) where
  abbrev start_right : ℕ → Bool
  start_right v = eqb (nat x.starts v) (readers_start t v)

  abbrev place_right : ℕ → Bool
  place_right i = eqb (nat x.places i) (nat (joined (readers t) t.n) i)

  pub indexed-start : indexed t x ≡ true → (v : ℕ) → v ≤ t.n → nat x.starts v ≡ readers_start t v
  indexed-start ok v l = eqb-true (nat x.starts v) (readers_start t v) (all_below-at start_right (suc t.n) (each _ ok).0 v (omega arith))

  pub indexed-place : indexed t x ≡ true → (v j : ℕ) → v < t.n → j < length (readers t v) → nat x.places (readers_start t v + j) ≡ nat (readers t v) j
  indexed-place ok v j l h =
      eqb-true (nat x.places (readers_start t v + j)) (nat (joined (readers t) t.n) (readers_start t v + j))
      (all_below-at place_right (readers_start t t.n) (each _ ok).1.0 (readers_start t v + j) (readers-within t v j l h))
      ∙ section-at (readers t) t.n v j l h

  pub indexed-from : ((v : ℕ) → v ≤ t.n → nat x.starts v ≡ readers_start t v)
      → ((v j : ℕ) → v < t.n → j < length (readers t v) → nat x.places (readers_start t v + j) ≡ nat (readers t v) j) → indexed t x ≡ true
  indexed-from p q = all_yes _ (
    below_all start_right (suc t.n) (λ v l. eq-eqb (nat x.starts v) (readers_start t v) (p v (omega arith))),
    (
      below_all place_right (readers_start t t.n) (λ i l.
          let (v, k, j, h, e) = section-of (readers t) t.n i l in
          eq-eqb (nat x.places i) (nat (joined (readers t) t.n) i) (rw e (q v j k h ∙ sym (section-at (readers t) t.n v j k h)))),
      tt,
    ),
  )

-- build's index passes
pub indexed_of : (t : Tables) (before : Index) → indexed t (index t before) ≡ true
indexed_of t before =
    indexed-from t (index t before)
    (λ v l. over-at (readers_start t) (suc t.n) before.starts v 0 (omega arith))
    (λ v j l h.
    get_or-append (joined (readers t) t.n) (drop (readers_start t t.n) before.places) 0 (readers_start t v + j) (readers-within t v j l h)
    ∙ section-at (readers t) t.n v j l h)
