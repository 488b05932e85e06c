-- From the rows that the file gives, with flags for those kept, to the rows that stand, and to what is saved of them. Assumes nothing.
use Prim.Native.Nat.{ℕ, ◌+◌, ◌≤◌, ◌<◌}
use native.Mathlib.Omega.{arith}
use mathlib.Core.Bool.{Bool, true, false, ◌&&◌}
use mathlib.Core.List.{List, [], ◌++◌, append-nil}
use mathlib.Core.Path.{◌≡◌, refl, ap, ap₂, sym, ◌∙◌, subst}
use lib.Dec.{eqb}
use lib.IntN.{ℤ}
use lib.ListN.{length, get_or, take, length-take}
use lib.Seq.{drop-nil, take-take}
use borrow.Author.Tests.{ltb-true}
use Rattle.paper.specs.File.{version1, Contents, unbounded_contents, n_in, m_in, e_in, cut}
use Rattle.paper.specs.Lists.{any, nat, those, below, over}
use Rattle.paper.specs.Tables.{Tables, lent, ends}
use Rattle.paper.proofs.Buffers.{length-below, over-at}
use Rattle.paper.proofs.Lists.{each}
use Rattle.paper.proofs.Sizes.{Sized}
use Rattle.paper.proofs.Those.{those-same}
use Rattle.tables.specs.Makers.{AllBelow}
use Rattle.order.proofs.Bare.{formed-of, ends-bare}
use Rattle.damage.specs.Keeping.{FileGives}
use Rattle.damage.specs.Saved.{packed, given, start_given, kept_rows, is_saved}
use Rattle.damage.specs.Flags.{flagged}
use Rattle.salvage.specs.Packing.{shape, Packable, Makes, Numberable}
use Rattle.salvage.specs.Saving.{Judged, Packed}
use Rattle.damage.specs.Scratch.{Laid, KeptFlags}
use Rattle.damage.proofs.Given.{variables, starts-long}
use Rattle.damage.proofs.KeptRows.{keeps, kept-those, kept_whole, any-those, rows-kept}
use Rattle.salvage.proofs.Outcome.{rows-most, entries-most, rows-stand}
use Rattle.damage.proofs.Packed.{Rows, packed-sound, good-alone}
use Rattle.damage.proofs.Stored.{those-most}
use Rattle.salvage.proofs.Copied.{those-below}

-- ── no row of what the file gives is longer than the counts ask ──
pub record Long (t : Tables) : Type 0 where
  pub kinds : length t.kinds ≡ t.m
  pub makes : length t.makes ≡ t.m
  pub params : length t.params ≡ t.m
  pub firsts : length t.firsts ≡ t.m
  pub counts : length t.counts ≡ t.m
  pub vars : length t.vars ≡ t.e
  pub coefs : length t.coefs ≡ t.e

nothing-long : {A : Type 0} (n : ℕ) (f : ℕ → A) → length (over n f []) ≡ n
nothing-long n f = ap length (ap (below f n ++◌) (drop-nil n) ∙ append-nil (below f n)) ∙ length-below f n

pub given-long : (bytes : List ℕ) → Long (given bytes)
given-long bytes = record {
  kinds = nothing-long (m_in bytes) _;
  makes = nothing-long (m_in bytes) _;
  params = nothing-long (m_in bytes) _;
  firsts = nothing-long (m_in bytes) _;
  counts = nothing-long (m_in bytes) _;
  vars = nothing-long (e_in bytes) _;
  coefs = nothing-long (e_in bytes) _;
}

-- ── the rows that stand, listed ──
module _ (bytes : List ℕ) (t : Tables) (starts : List ℤ) (row : List Bool) (J : Judged bytes t starts row) (rows : List ℕ) (q : rows ≡ flagged true row t.m) where
  m-is : t.m ≡ m_in bytes
  m-is = ap (λ (s : Tables). s.m) J.tables

  long : Long t
  long = subst Long (sym J.tables) (given-long bytes)

  rows_are : rows ≡ those (is_saved bytes) (m_in bytes)
  rows_are = q ∙ those-same (λ r. get_or row r false) (is_saved bytes) t.m J.standing ∙ ap (those (is_saved bytes)) m-is

  good : Rows t rows
  good = subst (λ s. Rows s rows) (sym J.tables) (subst (Rows (given bytes)) (sym rows_are) (rows-stand bytes J.head))

  pub rows_few : t.m ≤ 4096
  rows_few = let a = rows-most bytes J.head in let b = (variables bytes J.head).most in let c = m-is in omega arith

  few : length rows ≤ 4096
  few = let a = those-most (λ r. get_or row r false) t.m in let b = ap length q in let c = rows_few in omega arith

  -- they are rows of every column
  pub rows_in : {A : Type 0} (column : List A) → length column ≡ t.m → AllBelow (length rows) rows (length column)
  rows_in column h = rw q (those-below (λ r. get_or row r false) t.m (length column) (omega arith))

  packable : (entries : ℕ) → ((k : ℕ) → k < length rows → nat t.firsts (nat rows k) + nat t.counts (nat rows k) ≤ entries) → Packable t.firsts t.counts entries rows
  packable entries h = record {
    few = few;
    first = (rows_in t.firsts long.firsts).at;
    count = (rows_in t.counts long.counts).at;
    inside = h;
    small = good.few;
  }

  pub vars-packable : Packable t.firsts t.counts (length t.vars) rows
  vars-packable = packable (length t.vars) (λ k l. (good.whole k l).vars)

  pub coefs-packable : Packable t.firsts t.counts (length t.coefs) rows
  coefs-packable = packable (length t.coefs) (λ k l. (good.whole k l).coefs)

  pub kinds-in : AllBelow (length rows) rows (length t.kinds)
  kinds-in = rows_in t.kinds long.kinds

  pub makes-in : AllBelow (length rows) rows (length t.makes)
  makes-in = rows_in t.makes long.makes

  pub params_in : AllBelow (length rows) rows (length t.params)
  params_in = rows_in t.params long.params

  -- columns that hold them packed are the tables saved
  pub rows-packed : {e : ℕ} {kinds makes firsts counts vars : List ℕ} {params coefs : List ℤ} → let p = packed t rows in
      e ≡ p.e → kinds ≡ p.kinds → makes ≡ p.makes → params ≡ p.params → firsts ≡ p.firsts → counts ≡ p.counts → vars ≡ p.vars → coefs ≡ p.coefs
      → Packed bytes t.m (lent t.n (length rows) e kinds makes params firsts counts vars coefs) starts row
  rows-packed i k a p f c v o = record {
    head = J.head;
    rows = m-is;
    tables = same i k a p f c v o ∙ ap₂ packed J.tables rows_are;
    values = J.values;
    standing = J.standing;
  }
    where
      same : {e : ℕ} {kinds makes firsts counts vars : List ℕ} {params coefs : List ℤ} → let p = packed t rows in
          e ≡ p.e → kinds ≡ p.kinds → makes ≡ p.makes → params ≡ p.params → firsts ≡ p.firsts → counts ≡ p.counts → vars ≡ p.vars → coefs ≡ p.coefs
          → lent t.n (length rows) e kinds makes params firsts counts vars coefs ≡ packed t rows
      same i k a p f c v o = cc

-- ── from the rows kept to the rows that stand ──
pub gives-few : (bytes : List ℕ) (t : Tables) → FileGives bytes t → t.m ≤ 4096
gives-few bytes t G =
    let a = rows-most bytes G.head in let b = (variables bytes G.head).most in let c = ap (λ (s : Tables). s.m) G.is in omega arith

pub gives-long : (bytes : List ℕ) (t : Tables) → FileGives bytes t → Long t
gives-long bytes t G = subst Long (sym G.is) (given-long bytes)

module _ (bytes : List ℕ) (t : Tables) (G : FileGives bytes t) (row : List Bool) (K : KeptFlags bytes t row) (room : t.m ≤ length row) where
  long₁ : Long t
  long₁ = gives-long bytes t G

  -- a flag says that the row is kept
  flag_is : (r : ℕ) → r < t.m → get_or row r false ≡ keeps bytes r
  flag_is r l = K.at r l ∙ ap (any (eqb r)) (kept-those bytes t.m) ∙ any-those (keeps bytes) t.m r l

  flagged-are : flagged true row t.m ≡ kept_rows bytes t.m
  flagged-are = those-same (λ r. get_or row r false) (keeps bytes) t.m flag_is ∙ sym (kept-those bytes t.m)

  good₁ : Rows t (flagged true row t.m)
  good₁ = subst (λ s. Rows s (flagged true row t.m)) (sym G.is) (rows-kept bytes G.head (λ r. get_or row r false) t.m (λ r l e. sym (flag_is r l) ∙ e))

  makes-variable : Makes t.n t.m t.makes row
  makes-variable = record {
    at = λ r l e. let k = sym (flag_is r l) ∙ e in
        subst (λ (s : Tables). nat s.makes r < s.n) (sym G.is)
        (ltb-true (nat (given bytes).makes r) (n_in bytes) (good-alone (given bytes) r (kept_whole bytes r k) (each _ k).1.1.0).makes);
  }

  pub kept-numberable : Numberable t.n t.m t.makes t.firsts t.counts t.vars row
  kept-numberable = let rows = flagged true row t.m in let low = those-below (λ r. get_or row r false) t.m in record {
    most = gives-few bytes t G;
    rows = room;
    made = let h = long₁.makes in omega arith;
    packable = record {
      few = let a = those-most (λ r. get_or row r false) t.m in let b = gives-few bytes t G in omega arith;
      first = (low (length t.firsts) (let h = long₁.firsts in omega arith)).at;
      count = (low (length t.counts) (let h = long₁.counts in omega arith)).at;
      inside = λ k l. (good₁.whole k l).vars;
      small = good₁.few;
    };
    formed = formed-of (packed t rows) (packed-sound t rows good₁);
    variable = makes-variable;
  }

  -- what is left of the flags
  module _ (starts : List ℤ) (values : take t.n starts ≡ start_given bytes) {left : List Bool}
      (e : left ≡ over t.m (λ r. get_or row r false && ends (shape t.n t.makes t.firsts t.counts t.vars (flagged true row t.m)) (nat t.makes r)) row) where
    stands-is : (r : ℕ) → r < t.m → get_or left r false ≡ is_saved bytes r
    stands-is r l =
        ap (λ x. get_or x r false) e
        ∙ over-at (λ r. get_or row r false && ends (shape t.n t.makes t.firsts t.counts t.vars (flagged true row t.m)) (nat t.makes r)) t.m row r false l
        ∙ ap₂ ◌&&◌ (K.at r l) (ap (λ f. f (nat t.makes r)) (ends-bare (packed t (flagged true row t.m))) ∙ ap (λ rows. ends (packed t rows) (nat t.makes r)) flagged-are)
        ∙ subst (λ (s : Tables). (any (eqb r) (kept_rows bytes s.m) && ends (packed s (kept_rows bytes s.m)) (nat s.makes r)) ≡ is_saved bytes r) (sym G.is) refl

    pub left-judged : Judged bytes t starts left
    left-judged = record { head = G.head; tables = G.is; values = values; standing = stands-is }

-- ── from rows over which the file's were laid ──
module _ (bytes : List ℕ) (t : Tables) (starts : List ℤ) (L : Laid bytes t starts) where
  laid-gives : FileGives bytes (cut version1 (unbounded_contents t [])).tables
  laid-gives = record { head = L.head; is = ap (λ (z : Contents). z.tables) L.is }

  pub laid-cut : FileGives bytes (lent t.n t.m t.e (take t.m t.kinds) (take t.m t.makes) (take t.m t.params) (take t.m t.firsts) (take t.m t.counts)
      (take t.e t.vars) (take t.e t.coefs))
  laid-cut = laid-gives

  laid-values : take t.n starts ≡ start_given bytes
  laid-values = ap (λ (z : Contents). z.starts) L.is

  front-room : {A : Type 0} (k : ℕ) (l f : List A) → take k l ≡ f → length f ≡ k → k ≤ length l
  front-room k l f e h = let a = length-take k l in let b = ap length e in omega arith

  -- they are as long as the counts ask
  pub laid-room : Sized t × (t.n ≤ length starts)
  laid-room =
      let g = given-long bytes in
      let is : Long (cut version1 (unbounded_contents t [])).tables = subst Long (sym laid-gives.is) g in
      let n : t.n ≡ n_in bytes = ap (λ (z : Tables). z.n) laid-gives.is in
      let m : t.m ≡ m_in bytes = ap (λ (z : Tables). z.m) laid-gives.is in
      let e : t.e ≡ e_in bytes = ap (λ (z : Tables). z.e) laid-gives.is in
      let v = variables bytes L.head in let r = rows-most bytes L.head in let en = entries-most bytes L.head in (
        record {
          n-some = let a = v.some in omega arith;
          n-most = let a = v.most in omega arith;
          m-most = omega arith;
          e-most = omega arith;
          kinds = front-room t.m t.kinds _ refl is.kinds;
          makes = front-room t.m t.makes _ refl is.makes;
          params = front-room t.m t.params _ refl is.params;
          firsts = front-room t.m t.firsts _ refl is.firsts;
          counts = front-room t.m t.counts _ refl is.counts;
          vars = front-room t.e t.vars _ refl is.vars;
          coefs = front-room t.e t.coefs _ refl is.coefs;
        },
        front-room t.n starts (start_given bytes) laid-values (starts-long bytes ∙ sym n),
      )

  -- the start values, cut too
  pub laid-starts : (t.n ≤ length (take t.n starts)) × (take t.n (take t.n starts) ≡ start_given bytes)
  laid-starts = let long = laid-room.1 in (omega (arith, length-take t.n starts), take-take t.n t.n starts (omega arith) ∙ laid-values)
