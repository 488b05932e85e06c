-- A table of one row, as the code cuts it out, is that row packed alone, and checks 2 to 4 accept it exactly if the row is good alone. Assumes nothing.
use Prim.Native.Nat.{ℕ, ◌+◌, ◌-◌, ◌≤◌, ◌<◌}
use native.Mathlib.Nat.{le_refl}
use native.Mathlib.Omega.{arith}
use mathlib.Core.Bool.{Bool, true, false, cond}
use mathlib.Core.List.{List, [], ◌∷◌}
use mathlib.Core.Path.{◌≡◌, refl, ap, sym, ◌∙◌}
use lib.Dec.{ltb}
use lib.IntN.{ℤ, pos}
use lib.ListN.{length, get_or, take, drop}
use borrow.Author.Tests.{ltb-true}
use Rattle.std.specs.Prelude.{Result, is_ok}
use Rattle.paper.specs.Lists.{every, nat}
use Rattle.paper.specs.Tables.{Tables, lent}
use Rattle.paper.specs.Checks.{Verdict, accepted, refused, check, require, kind_good, shape_good, number_good, row_lines, by_lines}
use Rattle.paper.proofs.Lists.{each, eqb-self}
use Rattle.paper.proofs.Scan.{next, part_length, part_same}
use Rattle.paper.proofs.Sizes.{Sized}
use Rattle.tables.specs.Answers.{answer_of}
use Rattle.tables.specs.declared.Refusal.{Refusal}
use Rattle.damage.specs.Saved.{packed, alone_good}

-- ── the table ──
-- one place of a list
one_place : {A : Type 0} (l : List A) (r : ℕ) (d : A) → r < length l → take ((r + 1) - r) (drop r l) ≡ get_or l r d ∷ []
one_place l r d h = let one : (r + 1) - r ≡ 1 = omega arith in rw one (ap (take 1) (next l r d h))

same_tables : {n m e e' : ℕ} {kinds kinds' makes makes' firsts counts counts' vars vars' : List ℕ} {params params' coefs coefs' : List ℤ}
    → e ≡ e' → kinds ≡ kinds' → makes ≡ makes' → params ≡ params' → counts ≡ counts' → vars ≡ vars' → coefs ≡ coefs'
    → lent n m e kinds makes params firsts counts vars coefs ≡ lent n m e' kinds' makes' params' firsts counts' vars' coefs'
same_tables e k a p c v o = cc

-- the table of row r, cut out by its first entry and its count
abbrev cut_out : Tables → ℕ → ℕ → ℕ → Tables
cut_out t r first count =
    lent t.n 1 count (take ((r + 1) - r) (drop r t.kinds)) (take ((r + 1) - r) (drop r t.makes)) (take ((r + 1) - r) (drop r t.params)) (0 ∷ [])
    (take ((r + 1) - r) (drop r t.counts)) (take ((first + count) - first) (drop first t.vars)) (take ((first + count) - first) (drop first t.coefs))

alone-cut : (t : Tables) → Sized t → (r : ℕ) → r < t.m → (first count : ℕ) → first ≡ nat t.firsts r → count ≡ nat t.counts r → cut_out t r first count ≡ packed t (r ∷ [])
alone-cut t s r low first count f c =
    let none : nat t.counts r + 0 ≡ nat t.counts r = omega arith in
    same_tables (c ∙ sym none)
    (one_place t.kinds r 0 (let h = s.kinds in omega arith)) (one_place t.makes r 0 (let h = s.makes in omega arith))
    (one_place t.params r (pos 0) (let h = s.params in omega arith)) (one_place t.counts r 0 (let h = s.counts in omega arith))
    (part_same t.vars first count _ _ f c) (part_same t.coefs first count _ _ f c)

packed-sized : (t : Tables) → Sized t → (r : ℕ) → nat t.firsts r + nat t.counts r ≤ t.e → Sized (packed t (r ∷ []))
packed-sized t s r inside =
    let vars = part_length t.vars (nat t.firsts r) (nat t.counts r) (let h = s.vars in omega arith) in
    let coefs = part_length t.coefs (nat t.firsts r) (nat t.counts r) (let h = s.coefs in omega arith) in
    record {
      n-some = s.n-some;
      n-most = s.n-most;
      m-most = s.n-some;
      e-most = let h = s.e-most in omega arith;
      kinds = le_refl 1;
      makes = le_refl 1;
      params = le_refl 1;
      firsts = le_refl 1;
      counts = le_refl 1;
      vars = omega arith;
      coefs = omega arith;
    }

-- ── the checks ──
-- a check of one row
one-check : (code : ℕ) (good : ℕ → Bool) (rest : Verdict) → check code 1 good rest ≡ require code 0 (good 0) rest
one-check code good rest = go (good 0)
  where
    go : (b : Bool) → cond (ltb (cond b 1 0) 1) (refused code (cond b 1 0)) rest ≡ cond b rest (refused code 0)
    go true = refl
    go false = refl

abbrev three : Bool → Bool → Bool → Verdict
three kind shape number = require 2 0 kind (require 3 0 shape (require 4 0 number accepted))

abbrev done : Unit {0}
done = tt

three-ok : (a b c : Bool) → is_ok (answer_of done (three a b c)) ≡ every (a ∷ b ∷ c ∷ [])
unfolding every
three-ok true true true = refl
three-ok true true false = refl
three-ok true false c = refl
three-ok false b c = refl

alone-checks : (t : Tables) (r : ℕ) → let alone = packed t (r ∷ []) in by_lines (row_lines alone) accepted ≡ three (kind_good alone 0) (shape_good alone 0) (number_good alone 0)
alone-checks t r =
    let alone = packed t (r ∷ []) in
    one-check 2 (kind_good alone) _ ∙ ap (require 2 0 (kind_good alone 0)) (one-check 3 (shape_good alone) _
    ∙ ap (require 3 0 (shape_good alone 0)) (ap (λ b. require 3 0 b (check 4 1 (number_good alone) accepted)) (eqb-self (nat t.counts r + 0)) ∙ one-check 4 (number_good alone) accepted))

-- a good row makes one of the variables
pub alone-low : (t : Tables) (r : ℕ) → alone_good t r ≡ true → nat t.makes r < t.n
alone-low t r h = ltb-true _ _ (each _ (each _ h).1.0).0

-- ── the call that checks the table ──
module _ (t : Tables) (s : Sized t) (r : ℕ) (low : r < t.m) (first count : ℕ) (f : first ≡ nat t.firsts r) (c : count ≡ nat t.counts r) where
  pub alone-sized : nat t.firsts r + nat t.counts r ≤ t.e → Sized (cut_out t r first count)
  alone-sized inside = rw (alone-cut t s r low first count f c) (packed-sized t s r inside)

  pub alone-told : {told : Result Unit Refusal} → told ≡ answer_of done (by_lines (row_lines (cut_out t r first count)) accepted) → is_ok told ≡ alone_good t r
  alone-told e =
      ap is_ok (e ∙ ap (λ x. answer_of done (by_lines (row_lines x) accepted)) (alone-cut t s r low first count f c) ∙ ap (answer_of done) (alone-checks t r)) ∙ three-ok _ _ _
