-- All rows of sound tables, packed, are the tables without what their rows hold beyond the counts: the parts follow one another as they are.
-- Assumes nothing.
use Prim.Native.Nat.{ℕ, zero, suc, ◌+◌, ◌≤◌, ◌<◌}
use native.Mathlib.Nat.{le_refl}
use native.Mathlib.Numerals.{add-one}
use native.Mathlib.Omega.{arith}
use mathlib.Core.Bool.{Bool, true, false}
use mathlib.Core.List.{List, [], ◌∷◌, ◌++◌, map, map-append}
use mathlib.Core.Path.{◌≡◌, refl, ap, ap₂, sym, ◌∙◌}
use lib.Dec.{eqb}
use lib.IntN.{pos}
use lib.ListN.{length, get_or, take, drop, length-append}
use lib.Seq.{take-take, take-add}
use borrow.Author.Tests.{eqb-true}
use Rattle.paper.specs.Lists.{any, total, nat, those, joined, below}
use Rattle.paper.specs.Tables.{Tables, lent, bare, part}
use Rattle.paper.specs.Checks.{Sound}
use Rattle.paper.proofs.Lists.{each, any-has}
use Rattle.paper.proofs.Those.{those-in}
use Rattle.paper.proofs.Scan.{total-next}
use Rattle.paper.proofs.Buffers.{below-same, below-list}
use Rattle.paper.proofs.Sections.{those-place}
use Rattle.paper.proofs.Sizes.{Sized, sized-facts}
use Rattle.paper.proofs.Accept.{sound-row, made-once}
use Rattle.damage.specs.Saved.{packed}
use Rattle.damage.proofs.Packed.{RowGood, Whole}

-- ── the numbers below n ──
abbrev pub numbers : ℕ → List ℕ
numbers = those (λ r. true)

numbers-long : (n : ℕ) → length (numbers n) ≡ n
numbers-long zero = refl
numbers-long (suc n) = let h = numbers-long n in length-append (numbers n) (n ∷ []) ∙ omega arith

number_at : (n k : ℕ) → k < n → nat (numbers n) k ≡ k
number_at n k l = rw (numbers-long k) at (those-place (λ r. true) k n l refl).1

map-numbers : {A : Type 0} (f : ℕ → A) (n : ℕ) → map f (numbers n) ≡ below f n
map-numbers f zero = refl
map-numbers f (suc n) = map-append f (numbers n) (n ∷ []) ∙ ap (◌++ (f n ∷ [])) (map-numbers f n)

numbers-front : {A : Type 0} (l : List A) (d : A) (n : ℕ) → n ≤ length l → map (λ r. get_or l r d) (numbers n) ≡ take n l
numbers-front l d n h = map-numbers (λ r. get_or l r d) n ∙ below-list l d n h

-- ── sound tables ──
module _ (t : Tables) (s : Sound t) where
  abbrev m : ℕ
  m = t.m

  size : Sized t
  size = sized-facts t s.sized

  -- ── all rows packed ──
  whole : total (take m t.counts) ≡ t.e
  whole = eqb-true _ _ s.whole

  firsts-all : below (λ k. total (take k (take m t.counts))) m ≡ take m t.firsts
  firsts-all =
      below-same (λ k. total (take k (take m t.counts))) (nat t.firsts) m
      (λ k l. ap total (take-take k m t.counts (omega arith)) ∙ sym (sound-row t s k l).first)
      ∙ below-list t.firsts 0 m size.firsts

  module _ {A : Type 0} (l : List A) where
    abbrev own : ℕ → List A
    own k = part t (nat (numbers m) k) l

    entries-front : (k : ℕ) → k ≤ m → joined own k ≡ take (total (take k t.counts)) l
    entries-front zero h = refl
    entries-front (suc k) h =
        let row = sound-row t s k h in let long = size.counts in
        let grown = ap (λ (i : ℕ). total (take i t.counts)) (sym (add-one k)) ∙ total-next t.counts k (omega arith) in
        ap₂ ◌++◌ (entries-front k (omega arith)) (ap (λ q. part t q l) (number_at m k h) ∙ ap (λ (a : ℕ). take (nat t.counts k) (drop a l)) row.first)
        ∙ sym (take-add (total (take k t.counts)) (nat t.counts k) l) ∙ ap (λ (a : ℕ). take a l) (sym grown)

    entries-all : joined own (length (numbers m)) ≡ take t.e l
    entries-all = ap (joined own) (numbers-long m) ∙ entries-front m (le_refl m) ∙ ap (λ (a : ℕ). take a l) whole

  pub packed_all : packed t (numbers m) ≡ bare t
  packed_all =
      let long = numbers-long m in let counts = numbers-front t.counts 0 m size.counts in
      let kinds = numbers-front t.kinds 0 m size.kinds in let makes = numbers-front t.makes 0 m size.makes in
      let params = numbers-front t.params (pos 0) m size.params in
      let firsts = ap₂ (λ (c : List ℕ) (k : ℕ). below (λ j. total (take j c)) k) counts long ∙ firsts-all in
      let entries = ap total counts ∙ whole in let vars = entries-all t.vars in let coefs = entries-all t.coefs in
      λ i. lent t.n (long i) (entries i) (kinds i) (makes i) (params i) (firsts i) (counts i) (vars i) (coefs i)

  -- ── each row can be packed ──
  module _ (r : ℕ) (l : r < m) where
    pub sound-whole : Whole t r
    sound-whole = let row = sound-row t s r l in let inside = row.inside in let vars = size.vars in let coefs = size.coefs in record { vars = omega arith; coefs = omega arith }

    pub sound-good : RowGood t r
    sound-good = let f = each _ (s.shapes r l) in record { kind = s.kinds r l; makes = f.0; inputs = f.1.0; suits = f.1.1.0; number = s.numbers r l }

    -- no row before it makes its variable
    pub made-new : any (λ q. eqb (nat t.makes q) (nat t.makes r)) (numbers r) ≡ false
    made-new = go (any (λ q. eqb (nat t.makes q) (nat t.makes r)) (numbers r)) refl
      where
        go : (b : Bool) → any (λ q. eqb (nat t.makes q) (nat t.makes r)) (numbers r) ≡ b → b ≡ false
        go true e = let (q, n, h) = any-has (λ q. eqb (nat t.makes q) (nat t.makes r)) (numbers r) e in
            absurd (made-once t s q r (those-in (λ i. true) r q n).0 l (eqb-true (nat t.makes q) (nat t.makes r) h))
        go false e = refl

    -- the entries before it and its own are few
    pub made-few : total (map (nat t.counts) (numbers r)) + nat t.counts r ≤ 16384
    made-few =
        let row = sound-row t s r l in let long = size.counts in let most = size.e-most in let start = row.first in let inside = row.inside in
        let front = ap total (numbers-front t.counts 0 r (omega arith)) in
        omega arith
